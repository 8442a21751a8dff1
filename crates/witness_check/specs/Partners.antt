-- Partners: each run of the first table, renamed and switched, is a run of the second; then, by counting, every run of the second is one of
-- these.
use Rattle.std.specs.Prelude.{◌≡◌, refl, Bool, true, false, ◌&&◌, ◌||◌, List, [], ◌∷◌, ℕ, ◌^◌, ◌≤◌, ◌<◌, length, get_or}
use Rattle.std.specs.List.{list_any, list_all}
use Rattle.std.proofs.Common.{sym, ap, ◌∙◌, subst, inl, inr, ⊎_elim, arith}
use Rattle.std.proofs.Math.Dec.{eqb}
use Rattle.std.proofs.lemmas.Bool.{eqb-true, eqb-false}
use Rattle.std.specs.Int.Bits.{bit_xor}
use Rattle.gf2.specs.Answers.{Tells, tells_yes, tells_no}
use Rattle.gf2.specs.DigitLaws.{xor_cancel}
use Rattle.gf2.specs.Lists.{image, image_length, of_image, image_different}
use Rattle.gf2.specs.Members.{In, Different, pigeon}
use Rattle.gf2.specs.Places.{place_in, in_place}
use Rattle.regular.specs.Runs.{runs_of}
use Rattle.regular.specs.Same.{moved, Renaming, Carries, Within, sent}
use Rattle.isomorphism_laws.specs.Renamings.{moved_once}

-- every run of t has a partner in u
abbrev pub Partnered : ℕ → List ℕ → List ℕ → List ℕ → ℕ → Type 0
Partnered n t u p mask = (x : ℕ) → In x t → In (sent n p mask x) u

-- a run of t without a partner in u
pub record NoPartner (n : ℕ) (t u p : List ℕ) (mask : ℕ) : Type 0 where
  pub run : ℕ
  pub is : In run t
  pub none : In (sent n p mask run) u → ⊥

-- what the two loops find
module _ (n : ℕ) (t u p : List ℕ) (mask : ℕ) where
  -- the run at place i, renamed to x, has its partner at place j
  pub partner_at : (i j x : ℕ) → x ≡ moved p n (get_or t i 0) → j < length u → get_or u j 0 ≡ bit_xor x mask → In (sent n p mask (get_or t i 0)) u
  partner_at i j x e h f = subst (λ (y : ℕ). In y u) (f ∙ ap (λ (y : ℕ). bit_xor y mask) e) (place_in u j h)

  -- .. or at none of the places
  pub partner_none : (i j x : ℕ) → x ≡ moved p n (get_or t i 0) → i < length t → length u ≤ j → ((k : ℕ) → k < j → get_or u k 0 ≡ bit_xor x mask → ⊥)
      → NoPartner n t u p mask
  partner_none i j x e h l f = record {
    run = get_or t i 0;
    is = place_in t i h;
    none = λ m. let o = in_place u (sent n p mask (get_or t i 0)) m in
        f o.0 (omega (arith, o.1.0)) (sym o.1.1 ∙ sym (ap (λ (y : ℕ). bit_xor y mask) e));
  }

  -- every run has one
  pub partner_each : (i : ℕ) (answer : Bool) → answer ≡ true → length t ≤ i → ((k : ℕ) → k < i → In (sent n p mask (get_or t k 0)) u)
      → Tells answer (Partnered n t u p mask) (NoPartner n t u p mask)
  partner_each i answer e l f =
      subst (λ (b : Bool). Tells b (Partnered n t u p mask) (NoPartner n t u p mask)) (sym e)
      (tells_yes (Partnered n t u p mask) (NoPartner n t u p mask)
      (λ x m. let o = in_place t x m in subst (λ (y : ℕ). In (sent n p mask y) u) (sym o.1.1) (f o.0 (omega (arith, o.1.0)))))

-- whether a number is in a list, by a test of each place
in_more : (y z : ℕ) (u : List ℕ) (b : Bool) → (b ≡ true → z ≡ y) → (b ≡ false → z ≡ y → ⊥) → (r : Bool) → Tells r (In y u) (In y u → ⊥)
    → Tells (b || r) (In y (z ∷ u)) (In y (z ∷ u) → ⊥)
in_more y z u true same other r tells = tells_yes (In y (z ∷ u)) (In y (z ∷ u) → ⊥) (inl (sym (same refl)))
in_more y z u false same other r tells = ((λ e. inr (tells.0 e)), (λ e m. ⊎_elim (λ q. other refl (sym q)) (tells.1 e) m))

in_list : (y : ℕ) (u : List ℕ) → Tells (list_any (λ (z : ℕ). eqb z y) u) (In y u) (In y u → ⊥)
in_list y [] = tells_no (In y []) (In y [] → ⊥) (λ m. m)
in_list y (z ∷ u) = in_more y z u (eqb z y) (eqb-true z y) (eqb-false z y) (list_any (λ (v : ℕ). eqb v y) u) (in_list y u)

-- what a test of each run finds, y x being run x renamed
module _ (n : ℕ) (u p : List ℕ) (mask : ℕ) (y : ℕ → ℕ) (is : (x : ℕ) → y x ≡ moved p n x) where
  abbrev pub has_partner : ℕ → Bool
  has_partner x = list_any (λ (z : ℕ). eqb z (bit_xor (y x) mask)) u

  partner_of : (x : ℕ) → Tells (has_partner x) (In (sent n p mask x) u) (In (sent n p mask x) u → ⊥)
  partner_of x =
      subst (λ (v : ℕ). Tells (has_partner x) (In (bit_xor v mask) u) (In (bit_xor v mask) u → ⊥)) (is x) (in_list (bit_xor (y x) mask) u)

  partners_more : (x : ℕ) (t : List ℕ) (b : Bool) → Tells b (In (sent n p mask x) u) (In (sent n p mask x) u → ⊥) → (r : Bool)
      → Tells r (Partnered n t u p mask) (NoPartner n t u p mask) → Tells (b && r) (Partnered n (x ∷ t) u p mask) (NoPartner n (x ∷ t) u p mask)
  partners_more x t true here r tells = (
    (λ e v m. ⊎_elim (λ q. subst (λ (w : ℕ). In (sent n p mask w) u) (sym q) (here.0 refl)) (tells.0 e v) m),
    (λ e. let o = tells.1 e in record { run = o.run; is = inr o.is; none = o.none }),
  )
  partners_more x t false here r tells =
      tells_no (Partnered n (x ∷ t) u p mask) (NoPartner n (x ∷ t) u p mask) (record { run = x; is = inl refl; none = here.1 refl })

  pub partners_told : (t : List ℕ) → Tells (list_all has_partner t) (Partnered n t u p mask) (NoPartner n t u p mask)
  partners_told [] = tells_yes (Partnered n [] u p mask) (NoPartner n [] u p mask) (λ x m. absurd m)
  partners_told (x ∷ t) = partners_more x t (has_partner x) (partner_of x) (list_all has_partner t) (partners_told t)

-- different runs below 2^n go to different runs
module _ (n : ℕ) (t u p : List ℕ) (mask : ℕ) (r : Renaming n p) (different : Different t) (low : Within n (runs_of t)) where
  sent_once : (x y : ℕ) → In x t → In y t → sent n p mask x ≡ sent n p mask y → x ≡ y
  sent_once x y a b e =
      moved_once n p r x y (low x a) (low y b) (xor_cancel (moved p n x) (moved p n y) mask e)

  -- as many runs: the partners are all of u
  partners_all : length u ≤ length t → Partnered n t u p mask → (y : ℕ) → In y u → (x : ℕ) × (In x t × (y ≡ sent n p mask x))
  partners_all few into y m =
      let F = sent n p mask in
      of_image F t y (pigeon (image F t) u (image_different F t different sent_once)
      (λ z k. let o = of_image F t z k in subst (λ (w : ℕ). In w u) (sym o.1.1) (into o.0 o.1.0))
      (omega (arith, image_length F t)) y m)

  -- .. and the witness carries t to u
  pub partners_carry : mask < 2 ^ n → length u ≤ length t → Partnered n t u p mask → Carries n (runs_of t) (runs_of u) p mask
  partners_carry h few into = record { renaming = r; within = h; into = into; onto = partners_all few into }
