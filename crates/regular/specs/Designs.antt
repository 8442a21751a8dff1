-- The design record: what it holds, and the plan that it describes (document 01, "Plans in three forms").
use Rattle.std.specs.Prelude.{ℕ, ◌*◌, ◌^◌, ◌≤◌, ◌<◌, ◌≡◌, refl, List, get_or, replicate}
use Rattle.std.proofs.Common.{le_of_lt, lt_trans, lt_of_le_of_lt, mul-le-mul_right, lit<}
use Rattle.regular.specs.declared.Design.{Design}

-- a record of n factors and m basics whose columns and mask are as wanted, the columns past n being zero
pub record HoldsWith (n m : ℕ) (Wanted : List ℕ → ℕ → Type 0) (d : Design) : Type 0 where
  pub factors : d.factors ≡ n
  pub basics : d.basics ≡ m
  pub wanted : Wanted d.columns d.mask
  pub unused : (f : ℕ) → n ≤ f → f < 16 → get_or d.columns f 0 ≡ 0

-- .. whose columns are as wanted and in which no factor is switched
pub record Holds (n m : ℕ) (Wanted : List ℕ → Type 0) (d : Design) : Type 0 where
  pub factors : d.factors ≡ n
  pub basics : d.basics ≡ m
  pub columns : Wanted d.columns
  pub unused : (f : ℕ) → n ≤ f → f < 16 → get_or d.columns f 0 ≡ 0
  pub unswitched : d.mask ≡ 0

-- the record of n factors, m basics, sixteen columns and a mask; and without switches
abbrev pub design_with : ℕ → ℕ → List ℕ → ℕ → Design
design_with n m c mask = record { factors = n; basics = m; columns = c; mask = mask }

abbrev pub design_of : ℕ → ℕ → List ℕ → Design
design_of n m c = design_with n m c 0

-- it holds what its columns are; and a record holds whatever is true of its columns
pub design_holds : (n m : ℕ) (Wanted : List ℕ → Type 0) (c : List ℕ) → Wanted c → ((f : ℕ) → n ≤ f → get_or c f 0 ≡ 0) → Holds n m Wanted (design_of n m c)
design_holds n m Wanted c w z = record { factors = refl; basics = refl; columns = w; unused = λ f l _. z f l; unswitched = refl }

pub holds_also : {n m : ℕ} {Wanted : List ℕ → Type 0} (Also : List ℕ → Type 0) (d : Design) → Holds n m Wanted d → Also d.columns → Holds n m Also d
holds_also Also d h a = record { factors = h.factors; basics = h.basics; columns = a; unused = h.unused; unswitched = h.unswitched }

-- the record of a refused call
abbrev pub blank : Design
blank = design_of 0 0 (replicate 16 0)

-- how many bytes a record takes: the offset of an element within a lent list fits 64 bits
abbrev pub design_bytes : ℕ
design_bytes = 20

pub offset_fits : (i n : ℕ) → i < n → n * design_bytes < 2 ^ 63 → i * design_bytes < 2 ^ 64
offset_fits i n l r = lt_of_le_of_lt (mul-le-mul_right design_bytes (le_of_lt l)) (lt_trans r (lit< tt))
