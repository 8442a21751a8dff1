-- `table_forms::all_below` meets its contract: a run is in the table exactly if it stands at a place. Assumes nothing.
use Rattle.std.proofs.Common.{◌≡◌, true, false, ℕ, ◌<◌, ◌≤◌, arith, rules, length, get_or}
use Rattle.gf2.specs.Places.{place_in, in_place}
use Rattle.table_forms.proofs.all_below.Goals as goal

pub returns : goal.returns
returns c =
    let t = c.args.t.now in
    let each : c.all.result ≡ true → (i : ℕ) → i < length t → get_or t i 0 < c.args.end = search rules in
    let some : c.all.result ≡ false → (i : ℕ) × ((i < length t) × (c.args.end ≤ get_or t i 0)) = search rules in (
      (λ e x m. let p = in_place t x m in omega (arith, p.1.1, each e p.0 p.1.0)),
      (λ e. let p = some e in (get_or t p.0 0, (place_in t p.0 p.1.0, p.1.1))),
    )
