-- How many numbers have a property: the length of a list that holds each of them once. Unique, and kept by a one-to-one map.
use Rattle.std.specs.Prelude.{◌≡◌, List, ℕ, length}
use Rattle.std.proofs.Common.{sym, subst, ◌∙◌, arith}
use Rattle.gf2.specs.Members.{In, Different}
use Rattle.gf2.specs.Lists.{fewer, image, image_length, in_image, of_image, image_different}

-- exactly k numbers have the property P
pub record Count (P : ℕ → Type 0) (k : ℕ) : Type 0 where
  pub members : List ℕ
  pub different : Different members
  pub each : (x : ℕ) → In x members → P x
  pub all : (x : ℕ) → P x → In x members
  pub number : length members ≡ k

pub count_unique : (P : ℕ → Type 0) (k l : ℕ) → Count P k → Count P l → k ≡ l
count_unique P k l a b =
    let p = fewer a.members b.members a.different (λ z m. b.all z (a.each z m)) in
    let q = fewer b.members a.members b.different (λ z m. a.all z (b.each z m)) in
    omega (arith, a.number, b.number)

-- equivalent properties
pub count_same : (P Q : ℕ → Type 0) (k : ℕ) → ((x : ℕ) → P x → Q x) → ((x : ℕ) → Q x → P x) → Count P k → Count Q k
count_same P Q k into onto c = record {
  members = c.members;
  different = c.different;
  each = λ x m. into x (c.each x m);
  all = λ x q. c.all x (onto x q);
  number = c.number;
}

-- a map of P onto Q that is one to one
pub count_image : (P Q : ℕ → Type 0) (k : ℕ) (g : ℕ → ℕ) → ((x : ℕ) → P x → Q (g x)) → ((y : ℕ) → Q y → (x : ℕ) × (P x × (y ≡ g x)))
    → ((x y : ℕ) → P x → P y → g x ≡ g y → x ≡ y) → Count P k → Count Q k
count_image P Q k g into onto once c = record {
  members = image g c.members;
  different = image_different g c.members c.different (λ x y p q e. once x y (c.each x p) (c.each y q) e);
  each = λ y m. let r = of_image g c.members y m in subst Q (sym r.1.1) (into r.0 (c.each r.0 r.1.0));
  all = λ y q. let r = onto y q in subst (λ (z : ℕ). In z (image g c.members)) (sym r.1.1) (in_image g c.members r.0 (c.all r.0 r.1.0));
  number = image_length g c.members ∙ c.number;
}
