-- Laws of aberration (document 02, request 3). Compared from length 3 to the last letter, plans without words below three letters are ranked as the minimum
-- aberration criterion of document 000 ranks them, and two of which neither has less aberration have one pattern.
use Rattle.std.proofs.Math.Logic.{by_cases}
use Rattle.std.specs.Prelude.{◌≡◌, List, ℕ, zero, suc, ◌≤◌, ◌<◌}
use Rattle.std.proofs.Common.{sym, subst, ◌∙◌, arith}
use Rattle.std.proofs.Math.Decide.{dec_lt}
use Rattle.gf2.specs.Counts.{count_unique}
use Rattle.regular.specs.Pattern.{Pattern, LessAberration, WordsOfLength, AberrationCriterion, of_length}
use Rattle.regular.specs.Runs.{Runs}
use Rattle.regular.specs.Words.{Word, letters, NoShort}
use Rattle.counts.specs.Counting.{count_none, count_some}
use Rattle.counts.specs.Patterns.{word_most}

-- no word has fewer than three letters
none_below : (n l : ℕ) (s : Runs) → NoShort n 3 s → l < 3 → WordsOfLength n s l 0
none_below n l s long h = count_none (λ w. Word n s w × (letters w ≡ l)) (λ w e. omega (arith, long w e.0, e.1))

numbers_same : {n l a b : ℕ} {s : Runs} → WordsOfLength n s l a → WordsOfLength n s l b → a ≡ b
numbers_same {n} {l} {a} {b} {s} h k = count_unique (λ w. Word n s w × (letters w ≡ l)) a b h k

-- so there two patterns agree
pub below_agree : {n : ℕ} {t s : Runs} {p q : List ℕ} → NoShort n 3 t → NoShort n 3 s → Pattern n t p → Pattern n s q → (l : ℕ) → 1 ≤ l → l ≤ n → l < 3
    → of_length p l ≡ of_length q l
below_agree {n} {t} {s} {p} {q} long-t long-s of_t of_s l some most short =
    numbers_same (of_t.counts l some most) (none_below n l t long-t short) ∙ numbers_same (none_below n l s long-s short) (of_s.counts l some most)

-- the plan with the fewer words of l letters has less aberration, if l is the first length that differs
less_at : {n m l : ℕ} {t s : Runs} {p q : List ℕ} → Pattern n t p → Pattern n s q → 3 ≤ l → l ≤ n
    → ((k : ℕ) → 3 ≤ k → k < l → of_length p k ≡ of_length q k) → of_length p l < of_length q l → LessAberration n m t s
less_at {n} {m} {l} {t} {s} {p} {q} of_t of_s low high same less = record {
  p = p;
  q = q;
  of_t = of_t;
  of_s = of_s;
  better = record { at = l; from = low; to = high; before = same; fewer = less };
}

module _ {n m : ℕ} {t s : Runs} (long-t : NoShort n 3 t) (long-s : NoShort n 3 s) where
  -- the comparison and the criterion rank alike
  pub less_criterion : LessAberration n m t s → AberrationCriterion n t s
  less_criterion less =
      let b = less.better in
      let low = b.from in
      let high = b.to in
      record {
        r = b.at;
        few = of_length less.p b.at;
        more = of_length less.q b.at;
        of_t = less.of_t.counts b.at (omega arith) (omega arith);
        of_s = less.of_s.counts b.at (omega arith) (omega arith);
        fewer = b.fewer;
        before = λ l h. by_cases (dec_lt l 3)
            (λ short. (0, (none_below n l t long-t short, none_below n l s long-s short)))
            (λ from. (
              of_length less.p l,
              (
                less.of_t.counts l (omega arith) (omega arith),
                subst (WordsOfLength n s l) (sym (b.before l (omega arith) h)) (less.of_s.counts l (omega arith) (omega arith)),
              ),
            ));
      }

  module _ {p q : List ℕ} (of_t : Pattern n t p) (of_s : Pattern n s q) where
    pub criterion_less : AberrationCriterion n t s → LessAberration n m t s
    criterion_less c =
        let r = c.r in
        let w = count_some (λ v. Word n s v × (letters v ≡ r)) c.more (omega (arith, c.fewer)) c.of_s in
        let low : 3 ≤ r = omega (arith, long-s w.0 w.1.0, w.1.1) in
        let high : r ≤ n = omega (arith, word_most n s w.0 w.1.0, w.1.1) in
        less_at of_t of_s low high
        (λ l h k. let same = (c.before l k).1 in
        numbers_same (of_t.counts l (omega arith) (omega arith)) same.0 ∙ numbers_same same.1 (of_s.counts l (omega arith) (omega arith)))
        (omega (
          arith,
          c.fewer,
          numbers_same (of_t.counts r (omega arith) high) c.of_t,
          numbers_same (of_s.counts r (omega arith) high) c.of_s,
        ))

    -- if neither has less aberration than the other, they have one pattern
    module _ (not_t : LessAberration n m t s → ⊥) (not-s : LessAberration n m s t → ⊥) where
      next_agrees : (l : ℕ) → 1 ≤ l → l ≤ n → ((k : ℕ) → 3 ≤ k → k < l → of_length p k ≡ of_length q k) → of_length p l ≡ of_length q l
      next_agrees l some most same =
          by_cases (dec_lt l 3)
          (below_agree long-t long-s of_t of_s l some most)
          (λ from. by_cases (dec_lt (of_length p l) (of_length q l))
          (λ less. absurd (not_t (less_at of_t of_s (omega arith) most same less)))
          (λ no_less. by_cases (dec_lt (of_length q l) (of_length p l))
          (λ less. absurd (not-s (less_at of_s of_t (omega arith) most (λ k h b. sym (same k h b)) less)))
          (λ no_more. omega arith)))

      agree_to : (k l : ℕ) → l < k → 1 ≤ l → l ≤ n → of_length p l ≡ of_length q l
      agree_to zero l h some most = absurd (omega arith)
      agree_to (suc k) l h some most = next_agrees l some most (λ i from less. agree_to k i (omega arith) (omega arith) (omega arith))

      pub neither_agree : (l : ℕ) → 1 ≤ l → l ≤ n → of_length p l ≡ of_length q l
      neither_agree l = agree_to (suc l) l (omega arith)
