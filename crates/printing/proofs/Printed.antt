-- What is printed for a size and for a line: the lines of a catalogue, one after another; a refusal; the whole output.
use mathlib.Core.Path.{◌≡◌, sym, subst}
use mathlib.Core.List.{List, []}
use Prim.Native.Nat.{ℕ, suc, ◌+◌, ◌-◌, ◌≤◌, ◌<◌}
use native.Mathlib.Numerals.{add-one}
use native.Mathlib.Omega.{arith}
use lib.ListN.{length, get_or, replicate, length-replicate}
use Rattle.regular.specs.Refusals.{Lowest}
use Rattle.regular.specs.Columns.{plan_of}
use Rattle.regular.specs.Designs.{blank}
use Rattle.regular.specs.Given.{of_design}
use Rattle.regular.specs.GivenLaws.{holds_plan}
use Rattle.regular.specs.Catalogues.{catalogue_faults, ListsDesigns}
use Rattle.regular.specs.declared.Design.{Design}
use Rattle.words.specs.Switches.{pattern_agree, resolution_agree}
use Rattle.printed_lines.specs.Listed.{Listable}
use Rattle.printed_lines.specs.Text.{TextAdded, EntryLine, header_line, refused}
use Rattle.printing.specs.Output.{Lines, printed_faults, SizeOutput, Printed, EntryLines}
use Rattle.printing.specs.Counting.{counts}
use Rattle.printed_lines.specs.Adding.{adds_none, adds_more}
use Rattle.printing.proofs.Entries.{get_d_within}

-- no line yet, and one more
pub lines_none : (n g : ℕ) (list : List Design) (xs : List ℕ) (at : ℕ) → EntryLines n g 0 list xs xs at at
lines_none n g list xs at = record { lines = []; are = Lines.none; text = adds_none xs at }

line_more : {n g k : ℕ} {list : List Design} {xs ys zs : List ℕ} {at mid end : ℕ} → Listable n g (get_or list k blank) → EntryLines n g k list xs ys at mid
    → EntryLine n g (suc k) (get_or list k blank) ys zs mid end → EntryLines n g (suc k) list xs zs at end
line_more {n} {g} {k} {list} h l e =
    let d = get_or list k blank in
    let given = (of_design n g d).plan in
    let plan = plan_of n (n - g) d.columns in
    let same = holds_plan n g d h.holds in
    record {
      lines = _;
      are = Lines.more k l.lines e.resolution e.pattern l.are
          (resolution_agree n given plan same e.resolution e.is_resolution) (pattern_agree n given plan same e.pattern e.is_pattern);
      text = adds_more l.text e.text;
    }

pub lines_turn : (n g i : ℕ) (list : List Design) (d : Design) {xs ys zs : List ℕ} {at mid end : ℕ} → i < length list
    → Listable n g (get_or list i blank) → EntryLines n g i list xs ys at mid → EntryLine n g (i + 1) (get_or list i d) ys zs mid end
    → EntryLines n g (i + 1) list xs zs at end
lines_turn n g i list d {xs} {ys} {zs} {at} {mid} {end} h a l e =
    let f = subst (λ (k : ℕ). EntryLine n g k (get_or list i blank) ys zs mid end) (add-one i)
    (subst (λ (c : Design). EntryLine n g (i + 1) c ys zs mid end) (get_d_within list i d blank h) e) in
    subst (λ (k : ℕ). EntryLines n g k list xs zs at end) (sym (add-one i)) (line_more a l f)

pub lines_all : {n g place count : ℕ} {list : List Design} {xs ys : List ℕ} {at end : ℕ} → EntryLines n g place list xs ys at end → place ≡ count
    → EntryLines n g count list xs ys at end
lines_all {n} {g} {list = list} {xs} {ys} {at} {end} l e = subst (λ (k : ℕ). EntryLines n g k list xs ys at end) e l

-- a text that stands at the start of a list
pub printed : (P : List ℕ → Type 0) {xs ys t : List ℕ} {k : ℕ} → TextAdded xs ys 0 t k → k ≤ length xs → P t → Printed P xs ys k
printed P {xs} {ys} {t} {k} a h p = record { counts = counts k ys (omega (arith, a.size, h)); text = subst P (sym a.text) p; rest = a.rest }

module _ {n g r : ℕ} {d : Design} {zs : List Design} {number count : ℕ} (l : ListsDesigns n g r (replicate 1024 d) zs number count) where
  lowest : Lowest (printed_faults n g r) number
  lowest = subst (λ (m : ℕ). Lowest (catalogue_faults n g r (λ k. k ≤ m)) number) (length-replicate 1024 d) l.catalogues.lowest

  pub refused_output : {xs ys : List ℕ} {k : ℕ} → (number ≡ 0 → ⊥) → TextAdded xs ys 0 (refused number) k → k ≤ length xs → Printed (SizeOutput n g r) xs ys k
  refused_output h a fits = printed (SizeOutput n g r) a fits (SizeOutput.refusal number (omega (arith, h)) lowest)

  pub listing_output : {xs ys ws : List ℕ} {m k : ℕ} → number ≡ 0 → TextAdded xs ys 0 (header_line n g r count) m
      → EntryLines n g count zs ys ws m k → k ≤ length xs
      → Printed (SizeOutput n g r) xs ws k
  listing_output e a b fits =
      printed (SizeOutput n g r) (adds_more a b.text) fits
      (SizeOutput.listing count _ b.lines (subst (Lowest (printed_faults n g r)) e lowest) (l.catalogues.whole e) b.are)
