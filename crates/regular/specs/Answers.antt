-- What a call that may be refused answers, as the papers say it: a refusal's number, 0 if accepted, and values, blank if refused. Definitions only.
use Rattle.std.specs.Prelude.{ℕ, List, Bool, true, false, replicate, Result, Ok, Err}
use Rattle.regular.specs.Designs.{blank}
use Rattle.regular.specs.declared.Design.{Design}
use Rattle.regular.specs.declared.Refusal.{Refusal}
use Rattle.regular.specs.declared.Refusal.TheVariants as refusals
use Rattle.regular.specs.declared.Verdict.{Verdict}
use Rattle.regular.specs.declared.Verdict.TheVariants as verdicts
use Rattle.regular.specs.declared.Choice.{Choice}
use Rattle.regular.specs.declared.Choice.TheVariants as choices
use Rattle.regular.specs.declared.AcceptedPlan.{AcceptedPlan}
use Rattle.regular.specs.declared.UnplacedForm.{UnplacedForm}
use Rattle.regular.specs.declared.PlacedForm.{PlacedForm}
use Rattle.regular.specs.declared.FormPlace.{FormPlace}
use Rattle.regular.specs.declared.Load.{Load}
use Rattle.regular.specs.declared.BookSize.{BookSize}
use Rattle.regular.specs.declared.SignsAnswer.{SignsAnswer}
use Rattle.regular.specs.declared.FormAnswer.{FormAnswer}
use Rattle.regular.specs.declared.BookAnswer.{BookAnswer}
use Rattle.regular.specs.declared.StateAnswer.{StateAnswer}
use Rattle.regular.specs.declared.ReadAnswer.{ReadAnswer}

-- the number of a refusal in the papers
abbrev pub number : Refusal → ℕ
number refusals.Factors = 1
number refusals.Generators = 2
number refusals.Resolution = 3
number refusals.Count = 4
number refusals.Range = 5
number refusals.Rank = 6
number refusals.ShortWord = 7
number refusals.Places = 8
number refusals.Entries = 9
number refusals.Length = 10
number refusals.Kind = 11
number refusals.Untrue = 12

-- .. of an answer: 0 if accepted
abbrev pub refusal_of : {A : Type 0} → Result A Refusal → ℕ
refusal_of (Ok x) = 0
refusal_of (Err e) = number e

-- an admitted plan: the run that it starts from and its standard columns; zeros if refused
pub record Admitted : Type 0 where
  pub number : ℕ
  pub run : ℕ
  pub columns : List ℕ

abbrev pub admitted_of : Result AcceptedPlan Refusal → Admitted
admitted_of (Ok p) = record { number = 0; run = p.run; columns = p.columns }
admitted_of (Err e) = record { number = number e; run = 0; columns = replicate 16 0 }

-- a smallest form as a design record, the mask of the witness to it, and its first place in a list, 0 if absent or not looked for
pub record SmallestAnswer : Type 0 where
  pub number : ℕ
  pub mask : ℕ
  pub place : ℕ
  pub design : Design

abbrev pub smallest_answer : Result PlacedForm Refusal → SmallestAnswer
smallest_answer (Ok f) = record { number = 0; mask = f.mask; place = f.place; design = f.design }
smallest_answer (Err e) = record { number = number e; mask = 0; place = 0; design = blank }

abbrev pub unplaced_answer : Result UnplacedForm Refusal → SmallestAnswer
unplaced_answer (Ok f) = record { number = 0; mask = f.mask; place = 0; design = f.design }
unplaced_answer (Err e) = record { number = number e; mask = 0; place = 0; design = blank }

-- a load, and the state after its draws; the seed if refused
pub record LoadAnswer : Type 0 where
  pub number : ℕ
  pub state : ℕ
  pub design : Design

abbrev pub load_answer : ℕ → Result Load Refusal → LoadAnswer
load_answer seed (Ok l) = record { number = 0; state = l.state; design = l.design }
load_answer seed (Err e) = record { number = number e; state = seed; design = blank }

-- what a comparison finds
pub data Compared : Type 0 where
  Same : ℕ → Compared
  Different : ℕ → Compared
  Refused : ℕ → Compared

abbrev pub compared_of : Result Verdict Refusal → Compared
compared_of (Ok (verdicts.Same mask)) = Compared.Same mask
compared_of (Ok (verdicts.Different l)) = Compared.Different l
compared_of (Err e) = Compared.Refused (number e)

-- what the check of a witness finds
pub data Checked : Type 0 where
  Yes : Checked
  No : Checked
  Refused : ℕ → Checked

abbrev pub checked_of : Result Bool Refusal → Checked
checked_of (Ok true) = Checked.Yes
checked_of (Ok false) = Checked.No
checked_of (Err e) = Checked.Refused (number e)

-- which of two lists is chosen: 1 the first, 2 the second, 0 if refused
abbrev pub chosen_of : Result Choice Refusal → ℕ
chosen_of (Ok choices.First) = 1
chosen_of (Ok choices.Second) = 2
chosen_of (Err e) = 0

-- the answers that C is given
abbrev pub signs_answer : Result ℕ Refusal → SignsAnswer
signs_answer (Ok signs) = record { number = 0; signs = signs }
signs_answer (Err e) = record { number = number e; signs = 0 }

abbrev pub form_answer : Result FormPlace Refusal → FormAnswer
form_answer (Ok f) = record { number = 0; mask = f.mask; place = f.place }
form_answer (Err e) = record { number = number e; mask = 0; place = 0 }

abbrev pub book_answer : Result ℕ Refusal → BookAnswer
book_answer (Ok count) = record { number = 0; count = count }
book_answer (Err e) = record { number = number e; count = 0 }

abbrev pub state_answer : ℕ → Result ℕ Refusal → StateAnswer
state_answer seed (Ok state) = record { number = 0; state = state }
state_answer seed (Err e) = record { number = number e; state = seed }

abbrev pub read_answer : Result BookSize Refusal → ReadAnswer
read_answer (Ok b) = record { number = 0; factors = b.factors; generators = b.generators; resolution = b.resolution; count = b.count }
read_answer (Err e) = record { number = number e; factors = 0; generators = 0; resolution = 0; count = 0 }
