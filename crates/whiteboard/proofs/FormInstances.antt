-- Forms: what rests on the signed samples.
use Rattle.std.specs.Prelude.{◌^◌, refl, [], ◌∷◌, leb, get_or, replicate}
use Rattle.std.proofs.Common.{⊎_elim, arith, leb-true}
use Rattle.regular.specs.Columns.{plan_of, plan_with, Standard}
use Rattle.regular.specs.Designs.{HoldsWith}
use Rattle.regular.specs.Forms.{StandardDesign, StandardInto, WordsInto}
use Rattle.regular.specs.Given.{of_words, of_columns, of_runs}
use Rattle.regular.specs.Refusals.{LentFault, words_faults, columns_faults, runs_faults, Lowest}
use Rattle.regular.specs.RefusalLaws.{lowest_none, lowest_then, lent_fits, lent_short}
use Rattle.regular.specs.Runs.{runs_of}
use Rattle.regular.specs.Words.{NoShort, Generated, Fraction, total}
use Rattle.standard.specs.Form.{units_before, StandardForm}
use Rattle.standard.specs.Runs.{plan_cols}
use Rattle.standard.specs.Units.{standard_spans}
use Rattle.words.specs.Switches.{agree_sym, agree_trans, no_short_agree}
use Rattle.signs.specs.SignLaws.{fraction_words}
use Rattle.signs.specs.SignedWordsLaws.{standard_with}
use Rattle.whiteboard.specs.ListTests.{among, all, distinct, tabled_table}
use Rattle.whiteboard.specs.PlanInstances.{past_front, long_words}
use Rattle.whiteboard.specs.RefusalInstances.{size_none, size_3, words_accepted, runs_none, bytes_accepted}
use Rattle.whiteboard.specs.RowLaws.{is_given}
use Rattle.whiteboard.proofs.Samples.{words_three, words_five}
use Rattle.whiteboard.specs.SignInstances.{minus, three, run_minus, five_columns, first_minus}
use Rattle.whiteboard.proofs.SignInstances.{standard_minus, standard_first}
use Rattle.whiteboard.specs.SignInstances.{reduced_words, signed_first}
use Rattle.whiteboard.specs.Tests.{below, below_at, agree_at}
use Rattle.whiteboard.specs.FormInstances.{standard_like, standard_agree, columns_allowed, record_minus, bytes_minus}
use Rattle.whiteboard.specs.FormInstances.{table_minus, table_agree, bytes_first, equal_first}

pub holds_minus : HoldsWith 3 2 (Standard 3 2 minus) record_minus
unfolding below
holds_minus = record {
  factors = refl;
  basics = refl;
  wanted = standard_like 3 2 minus three record_minus.columns 4
      (agree_at (λ f. get_or three f 0) (λ f. get_or record_minus.columns f 0) 3 refl) standard_minus;
  unused = λ f l _. past_front three 13 f l;
}

-- words with signs into a record, and refused
long_three : NoShort 3 3 (Generated 3 1 (7 ∷ []))
long_three = long_words (1 ∷ []) words_three.pattern

pub accepted_minus : Lowest (words_faults 3 1 (7 ∷ []) 1) 0
unfolding total below
accepted_minus = words_accepted 3 1 (7 ∷ []) 1 size_3 refl (is_given 3 1 (7 ∷ []) refl) long_three (omega arith)

pub standard_design : StandardDesign 3 1 (of_words 3 1 (7 ∷ []) 1) 0 record_minus
standard_design = record { number = accepted_minus; refused = λ h. absurd (omega arith); result = λ e. holds_minus }

standard_bytes : Standard 3 2 minus bytes_minus 4
unfolding below
standard_bytes = standard_like 3 2 minus three bytes_minus 4 (agree_at (λ f. get_or three f 0) (λ f. get_or bytes_minus f 0) 3 refl) standard_minus

pub standard_into : StandardInto 3 1 (of_words 3 1 (7 ∷ []) 1) (replicate 6 9) bytes_minus 0
standard_into = record {
  number = lowest_then (words_faults 3 1 (7 ∷ []) 1) (LentFault 5 (replicate 6 9)) 0 accepted_minus (lent_fits 5 (replicate 6 9) (omega arith));
  refused = λ h. absurd (omega arith);
  result = λ e. standard_bytes;
  past = λ e. refl;
  size = refl;
}

pub accepted_table : Lowest (runs_faults 3 1 table_minus) 0
unfolding among all distinct
accepted_table =
    lowest_none (runs_faults 3 1 table_minus) (λ k f. ⊎_elim (size_none 3 1 size_3 k)
    (runs_none 3 2 table_minus (tabled_table 3 2 table_minus refl)
    (no_short_agree 3 minus (runs_of table_minus) table_agree 3 (λ w h. long_three w (fraction_words 3 1 (7 ∷ []) 1 4 run_minus w h))) k) f)

pub standard_table : StandardInto 3 1 (of_runs 3 1 table_minus) (replicate 6 9) bytes_minus 0
standard_table = record {
  number = lowest_then (runs_faults 3 1 table_minus) (LentFault 5 (replicate 6 9)) 0 accepted_table (lent_fits 5 (replicate 6 9) (omega arith));
  refused = λ h. absurd (omega arith);
  result = λ e. standard_agree 3 2 minus (runs_of table_minus) bytes_minus 4 table_agree standard_bytes;
  past = λ e. refl;
  size = refl;
}

pub standard_bytes_first : Standard 5 3 first_minus bytes_first 20
standard_bytes_first = standard_like 5 3 first_minus five_columns bytes_first 20 equal_first standard_first

pub accepted_first : Lowest (columns_faults 5 2 bytes_first) 0
unfolding below units_before
accepted_first =
    bytes_accepted 5 2 bytes_first (record { some = omega arith; most = omega arith; less = omega arith; few = omega arith }) refl
    standard_bytes_first.columns.below (standard_spans 5 3 bytes_first form) long (columns_allowed 5 3 first_minus bytes_first 20 standard_bytes_first)
  where
    form : StandardForm 5 3 bytes_first
    form = record {
      next = λ f h. leb-true (get_or bytes_first f 0) (2 ^ units_before bytes_first f)
          (below_at (λ i. leb (get_or bytes_first i 0) (2 ^ units_before bytes_first i)) 5 refl f h);
      units = refl;
    }

    long : NoShort 5 3 (plan_of 5 3 bytes_first)
    long =
        no_short_agree 5 (Generated 5 2 (27 ∷ 28 ∷ [])) (plan_of 5 3 bytes_first)
        (agree_trans (Generated 5 2 (27 ∷ 28 ∷ [])) (plan_of 5 3 five_columns) (plan_of 5 3 bytes_first) words_five.columns.plan
        (plan_cols 5 3 five_columns bytes_first equal_first)) 3 (long_words (2 ∷ 1 ∷ 0 ∷ []) words_five.pattern)

pub words_into : WordsInto 5 2 (of_columns 5 2 bytes_first) (9 ∷ 9 ∷ []) reduced_words (record { number = 0; signs = 3 })
words_into = record {
  words = record {
    number = lowest_then (columns_faults 5 2 bytes_first) (LentFault 2 (9 ∷ 9 ∷ [])) 0 accepted_first (lent_fits 2 (9 ∷ 9 ∷ []) (omega arith));
    refused = λ h. absurd (omega arith);
    result = λ e. record {
      words = signed_first.words;
      within = signed_first.within;
      plan = agree_trans (plan_with 5 3 bytes_first 20) first_minus (Fraction 5 2 reduced_words 3)
          (agree_sym first_minus (plan_with 5 3 bytes_first 20) (standard_with 5 3 first_minus bytes_first 20 standard_bytes_first)) signed_first.plan;
    };
    past = λ e. refl;
    size = refl;
  };
  no_signs = λ h. absurd (omega arith);
}

pub words_into_refused : WordsInto 5 2 (of_columns 5 2 bytes_first) (9 ∷ []) (9 ∷ []) (record { number = 8; signs = 0 })
words_into_refused = record {
  words = record {
    number = lowest_then (columns_faults 5 2 bytes_first) (LentFault 2 (9 ∷ [])) 8 accepted_first (lent_short 2 (9 ∷ []) (omega arith));
    refused = λ h. refl;
    result = λ e. absurd (omega arith);
    past = λ e. refl;
    size = refl;
  };
  no_signs = λ h. refl;
}
