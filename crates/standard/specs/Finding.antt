-- The answer of a search for standard columns, found or not.
use Rattle.std.specs.Prelude.{◌≡◌, refl, Bool, true, false, List, ℕ, ◌≤◌, get_or, replicate}
use Rattle.std.proofs.Common.{true≢false}
use Rattle.std.proofs.lemmas.Bool.{false≢true}
use Rattle.gf2.specs.Fill.{zeros}
use Rattle.regular.specs.Runs.{Runs}
use Rattle.standard.specs.Form.{StandardFor}

-- the standard columns of s were found exactly if it is possible; places past n are 0, and all are if they were not
pub record StandardFound (n m : ℕ) (Possible : Type 0) (s : Runs) (ok : Bool) (a : List ℕ) : Type 0 where
  pub possible : ok ≡ true → Possible
  pub impossible : ok ≡ false → Possible → ⊥
  pub standard : ok ≡ true → StandardFor n m s a
  pub unused : (f : ℕ) → n ≤ f → get_or a f 0 ≡ 0
  pub blank : ok ≡ false → a ≡ replicate 16 0

module _ (n m : ℕ) (Possible : Type 0) (s : Runs) where
  pub is_found : (a : List ℕ) → Possible → StandardFor n m s a → ((f : ℕ) → n ≤ f → get_or a f 0 ≡ 0) → StandardFound n m Possible s true a
  is_found a p st un = record {
    possible = λ _. p;
    impossible = λ e. absurd (true≢false e);
    standard = λ _. st;
    unused = un;
    blank = λ e. absurd (true≢false e);
  }

  pub not_found : (Possible → ⊥) → StandardFound n m Possible s false (replicate 16 0)
  not_found no_way = record {
    possible = λ e. absurd (false≢true e);
    impossible = λ _. no_way;
    standard = λ e. absurd (false≢true e);
    unused = λ f _. zeros 16 f;
    blank = λ _. refl;
  }
