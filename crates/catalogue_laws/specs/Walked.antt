-- Going from each entry to the first after it, as long as there is one, gives the catalogue; and what was met so far is its beginning.
use Rattle.std.specs.Prelude.{◌≡◌, refl, ◌⊎◌, List, ℕ, zero, suc, ◌≤◌, ◌<◌}
use Rattle.std.proofs.Common.{ap, inl, inr, ⊎_elim, arith}
use Rattle.std.proofs.Math.Logic.{by_cases}
use Rattle.std.proofs.Math.Decide.{ℕ_discrete, dec_lt}
use Rattle.regular.specs.Smallest.{Equal, Entry, Catalogue}
use Rattle.catalogue_laws.specs.Steps.{FirstEntry}
use Rattle.smallest_laws.specs.Value.{value, Bytes, value_same, digits, lt_before, before_lt}
use Rattle.catalogue_laws.specs.Walk.{entry_bytes}

-- where the search for the j-th entry starts
abbrev pub edge : ℕ → (ℕ → List ℕ) → ℕ → ℕ
edge n entry zero = 0
edge n entry (suc j) = suc (value n (entry j))

-- the first entries, one after the other
abbrev pub Begun : (n m r count : ℕ) (entry : ℕ → List ℕ) → Type 0
Begun n m r count entry = (j : ℕ) → j < count → FirstEntry n m r (edge n entry j) (entry j)

-- no entry is left
abbrev pub Ended : (n m r count : ℕ) (entry : ℕ → List ℕ) → Type 0
Ended n m r count entry = (e : List ℕ) → Entry n m r e → edge n entry count ≤ value n e → ⊥

module _ (n m r : ℕ) (few : m ≤ 7) (count : ℕ) (entry : ℕ → List ℕ) (begun : Begun n m r count entry) where
  rises : (i j : ℕ) → i < j → j < count → value n (entry i) < value n (entry j)
  rises i zero h l = absurd (omega arith)
  rises i (suc j) h l =
      let s = (begun (suc j) l).since in
      by_cases (ℕ_discrete i j) (λ e. rw e s) (λ ne. omega (arith, rises i j (omega arith) (omega arith)))

  bytes : (i : ℕ) → i < count → Bytes n (entry i)
  bytes i h = entry_bytes n m r few (entry i) (begun i h).held.entry

  -- an entry is one of the first i, or lies after them
  meets : (e : List ℕ) → Entry n m r e → (i : ℕ) → i ≤ count
      → ((j : ℕ) × ((j < i) × (value n (entry j) ≡ value n e))) ⊎ (edge n entry i ≤ value n e)
  meets e h zero l = inr (omega arith)
  meets e h (suc i) l =
      ⊎_elim
      (λ p. inl (p.0, (omega (arith, p.1.0), p.1.1)))
      (λ q. let s = (begun i l).least e h q in
      by_cases (ℕ_discrete (value n (entry i)) (value n e)) (λ v. inl (i, (omega arith, v))) (λ ne. inr (omega arith)))
      (meets e h i (omega arith))

  -- none is left: this is the catalogue
  pub catalogued : Ended n m r count entry → Catalogue n m r count entry
  catalogued ended = record {
    sound = λ i l. (begun i l).held.entry;
    order = λ i j h l. lt_before n (entry i) (entry j) (bytes i (omega arith)) (bytes j l) (rises i j h l);
    complete = λ e h. ⊎_elim
        (λ p. (p.0, (p.1.0, digits n (entry p.0) e (bytes p.0 p.1.0) (entry_bytes n m r few e h) p.1.1)))
        (λ q. absurd (ended e h q))
        (meets e h count (omega arith));
  }

  -- whether or not one is left: they are the first of the catalogue
  module _ (total : ℕ) (all : ℕ → List ℕ) (k : Catalogue n m r total all) where
    ordered : (i j : ℕ) → i < j → j < total → value n (all i) < value n (all j)
    ordered i j h l = before_lt n (all i) (all j) (entry_bytes n m r few (all i) (k.sound i (omega arith))) (k.order i j h l)

    -- where the first i agree, the next do
    record Upto (i : ℕ) : Type 0 where
      room : i ≤ total
      same : (j : ℕ) → j < i → value n (entry j) ≡ value n (all j)

    edges : (i j : ℕ) → j < total → edge n all i ≤ value n (all j) → i ≤ total → i ≤ j
    edges zero j l h g = omega arith
    edges (suc i) j l h g =
        by_cases (dec_lt i j) (λ q. q)
        (λ q. by_cases (ℕ_discrete i j)
        (λ e. absurd (omega (arith, ap (λ (x : ℕ). value n (all x)) e)))
        (λ ne. absurd (omega (arith, ordered j i (omega arith) g))))

    since : (i : ℕ) → i < total → edge n all i ≤ value n (all i)
    since zero h = omega arith
    since (suc i) h = ordered i (suc i) (omega arith) h

    edge_same : (i : ℕ) → Upto i → edge n entry i ≡ edge n all i
    edge_same zero u = refl
    edge_same (suc i) u = ap suc (u.same i (omega arith))

    upto : (i : ℕ) → i ≤ count → Upto i
    upto zero h = record { room = omega arith; same = λ j l. absurd (omega arith) }
    upto (suc i) h =
        let u = upto i (omega arith) in
        let f = begun i h in
        let e = edge_same i u in
        let p = k.complete (entry i) f.held.entry in
        let v : value n (all p.0) ≡ value n (entry i) = value_same n (all p.0) (entry i) p.1.1 in
        let w : i ≤ p.0 = edges i p.0 p.1.0 (omega (arith, f.since)) u.room in
        let l : i < total = omega (arith, p.1.0) in
        let low = f.least (all i) (k.sound i l) (omega (arith, since i l)) in
        let up : value n (all i) ≤ value n (all p.0) = by_cases (ℕ_discrete i p.0) (λ z. omega (arith, ap (λ (x : ℕ). value n (all x)) z))
        (λ ne. omega (arith, ordered i p.0 (omega arith) p.1.0)) in
        record {
          room = l;
          same = λ j s. by_cases (ℕ_discrete j i) (λ z. rw z (omega arith)) (λ ne. u.same j (omega arith));
        }

    pub begun_room : count ≤ total
    begun_room = (upto count (omega arith)).room

    pub begun_first : (i : ℕ) → i < count → Equal n (entry i) (all i)
    begun_first i h =
        digits n (entry i) (all i) (bytes i h) (entry_bytes n m r few (all i) (k.sound i (omega (arith, begun_room)))) ((upto count (omega arith)).same i h)
