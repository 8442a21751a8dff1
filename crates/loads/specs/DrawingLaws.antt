-- The columns while they are drawn: none, one more of a basic factor, one more that was drawn; all of them.
use Rattle.std.specs.Prelude.{◌≡◌, ℕ, suc, ◌+◌, ◌-◌, ◌/◌, ◌%◌, ◌^◌, ◌<◌, ◌≤◌, List, replicate, slice_index, slice_set, refl}
use Rattle.std.proofs.Common.{sym, ◌∙◌, ⊎_elim, length-set, pow_pos, pow_mono, get_or-set_same, get_or-set_other}
use Rattle.std.proofs.Math.Path.{ap, ap₂, subst}
use Rattle.std.proofs.Math.Logic.{by_cases}
use native.Mathlib.Omega.{arith}
use Rattle.std.proofs.Math.Decide.{ℕ_discrete}
use Rattle.std.proofs.lemmas.Nat.{xor_lt}
use Rattle.gf2.specs.DigitLaws.{pow_inj, pow_most}
use Rattle.gf2.specs.Fill.{zeros, set_unused}
use Rattle.regular.specs.Columns.{Column}
use Rattle.regular.specs.Loads.{state_after, draw, FirstUnused, yielded}
use Rattle.regular.specs.Smallest.{Equal}
use Rattle.column_forms.specs.TableLaws.{seen_none, seen_more}
use Rattle.load_laws.specs.Unused.{column_equal, first_unused_lem, first_agree}
use Rattle.loads.specs.Drawing.{Roomy, LastColumn, Drawing, ColumnsDrawn}
use Rattle.loads.specs.Marks.{seen_equal}

-- what a draw yields has 32 bits
pub yielded_lt : (state : ℕ) → state < 2 ^ 32 → yielded state < 2 ^ 32
yielded_lt state h = xor_lt 32 state (state / 2 ^ 15) h (omega arith)

pub last_of_lem : (n m p : ℕ) → Roomy n m → p ≡ 2 ^ m → LastColumn n m (p - 1)
last_of_lem n m p z e =
    let low : 2 ≤ 2 ^ m = pow_mono {i = 1} {j = m} z.some in
    let high : 2 ^ m ≤ 128 = pow_most m z.few in
    record { is = ap (λ (q : ℕ). q - 1) e; some = omega arith; most = omega arith; room = omega (arith, z.room) }

pub drawing_none : (m seed : ℕ) (t : List ℕ) → t ≡ replicate 128 0 → Drawing m seed 0 (replicate 16 0) (slice_set t 0 1) seed
unfolding state_after
drawing_none m seed t e = record {
  places = refl;
  marks = seen_none (replicate 16 0) t e;
  basic = λ i h. absurd (omega arith);
  later = λ i l h. absurd (omega arith);
  unused = λ i l. zeros 16 i;
  after = ap (state_after seed) (none m);
}
  where
    none : (m : ℕ) → 0 ≡ 0 - m
    none m = omega arith

-- one column more, that is not marked
module _ (m seed f : ℕ) (c seen : List ℕ) (state : ℕ) (k : Drawing m seed f c seen state) (fits : f < 16) where
  kept : (x : ℕ) → Equal f c (slice_set c f x)
  kept x g h = sym (get_or-set_other c f g x 0 (λ e. omega arith))

  put_at : (x : ℕ) → slice_index (slice_set c f x) f ≡ x
  put_at x = get_or-set_same c f x 0 (omega (arith, k.places))

  drawing_put : (x next : ℕ) → x < 128 → slice_index seen x ≡ 0 → (f < m → x ≡ 2 ^ f)
      → (m ≤ f → FirstUnused (2 ^ m - 1) (Column f c) (draw seed (f - m) % (2 ^ m - 1) + 1) x) → next ≡ state_after seed (f + 1 - m)
      → Drawing m seed (f + 1) (slice_set c f x) (slice_set seen x 1) next
  drawing_put x next low free own drawn after = record {
    places = length-set c f x ∙ k.places;
    marks = seen_more (slice_set c f x) f seen x (sym (put_at x)) (seen_equal f c (slice_set c f x) seen (kept x) k.marks) low free;
    basic = λ e h l. by_cases (ℕ_discrete e f)
        (λ q. ap (λ (i : ℕ). slice_index (slice_set c f x) i) q ∙ put_at x ∙ own (omega arith) ∙ ap (λ (i : ℕ). 2 ^ i) (sym q))
        (λ ne. sym (kept x e (omega arith)) ∙ k.basic e (omega arith) l);
    later = λ e l h. by_cases (ℕ_discrete e f)
        (λ q. later_at e q l)
        (λ ne. subst (FirstUnused (2 ^ m - 1) (Column e (slice_set c f x)) (draw seed (e - m) % (2 ^ m - 1) + 1)) (kept x e (omega arith))
        (moved_on e (omega arith) (slice_index c e) (k.later e l (omega arith))));
    unused = set_unused c f x k.unused;
    after = after;
  }
    where
      moved_on : (e : ℕ) → e ≤ f → (y : ℕ) → FirstUnused (2 ^ m - 1) (Column e c) (draw seed (e - m) % (2 ^ m - 1) + 1) y
          → FirstUnused (2 ^ m - 1) (Column e (slice_set c f x)) (draw seed (e - m) % (2 ^ m - 1) + 1) y
      moved_on e l y =
          first_agree (2 ^ m - 1) (Column e c) (Column e (slice_set c f x)) (column_equal f c (slice_set c f x) (kept x) e l)
          (column_equal f (slice_set c f x) c (λ g h. sym (kept x g h)) e l) (draw seed (e - m) % (2 ^ m - 1) + 1) y

      later_at : (e : ℕ) → e ≡ f → m ≤ e →
          FirstUnused (2 ^ m - 1) (Column e (slice_set c f x)) (draw seed (e - m) % (2 ^ m - 1) + 1) (slice_index (slice_set c f x) e)
      later_at e q l =
          subst (λ (j : ℕ). FirstUnused (2 ^ m - 1) (Column j (slice_set c f x)) (draw seed (j - m) % (2 ^ m - 1) + 1)
          (slice_index (slice_set c f x) j)) (sym q)
          (subst (FirstUnused (2 ^ m - 1) (Column f (slice_set c f x)) (draw seed (f - m) % (2 ^ m - 1) + 1)) (sym (put_at x))
          (moved_on f (omega arith) x (drawn (omega arith))))

  -- a marked column is 0 or one of them
  unmarked : (x : ℕ) → 0 < x → (Column f c x → ⊥) → slice_index seen x ≡ 0
  unmarked x some no-use =
      by_cases (ℕ_discrete (slice_index seen x) 0) (λ e. e) (λ ne. absurd (⊎_elim (λ z. omega arith) no-use (k.marks.only x ne)))

  pub drawing_basic : (x : ℕ) → f < m → x < 128 → x ≡ 2 ^ f → Drawing m seed (f + 1) (slice_set c f x) (slice_set seen x 1) state
  drawing_basic x h low is =
      drawing_put x state low
      (unmarked x (omega (arith, pow_pos f))
      (λ o. omega (arith, pow_inj o.0 f (sym (k.basic o.0 o.1.0 (omega (arith, o.1.0))) ∙ o.1.1 ∙ is), o.1.0)))
      (λ _. is) (λ l. absurd (omega arith)) (k.after ∙ ap (state_after seed) (none f m h))
    where
      none : (f m : ℕ) → f < m → f - m ≡ f + 1 - m
      none f m h = omega arith

  pub drawing_later : (last start x next : ℕ) → m ≤ f → last ≡ 2 ^ m - 1 → 0 < x → x < 128 → next ≡ (state + 2654435769) % 2 ^ 32
      → start ≡ yielded next % last → FirstUnused last (Column f c) (start + 1) x → Drawing m seed (f + 1) (slice_set c f x) (slice_set seen x 1) next
  unfolding state_after
  drawing_later last start x next h all some low is place first =
      let drawn : next ≡ state_after seed (suc (f - m)) = is ∙ ap (λ (s : ℕ). (s + 2654435769) % 2 ^ 32) k.after in
      let at : start ≡ draw seed (f - m) % (2 ^ m - 1) = place ∙ ap₂ (λ (s l : ℕ). yielded s % l) drawn all in
      drawing_put x next low (unmarked x some (first_unused_lem last (Column f c) (start + 1) x first)) (λ l. absurd (omega arith))
      (λ _. subst (λ (s : ℕ). FirstUnused (2 ^ m - 1) (Column f c) (s + 1) x) at (subst (λ (l : ℕ). FirstUnused l (Column f c) (start + 1) x) all first))
      (drawn ∙ ap (state_after seed) (more f m h))
    where
      more : (f m : ℕ) → m ≤ f → suc (f - m) ≡ f + 1 - m
      more f m h = omega arith

-- all of them
pub drawing_all : (n m seed f : ℕ) (c seen : List ℕ) (state : ℕ) → Roomy n m → f ≡ n → Drawing m seed f c seen state → ColumnsDrawn n m seed c state
drawing_all n m seed f c seen state z e k = record {
  unswapped = record {
    places = omega (arith, k.places, z.most);
    basic = λ i h. k.basic i (omega (arith, z.within)) h;
    later = λ i l h. k.later i l (omega arith);
  };
  unused = λ i l. k.unused i (omega arith);
  after = k.after ∙ ap (λ (j : ℕ). state_after seed (j - m)) e;
}
