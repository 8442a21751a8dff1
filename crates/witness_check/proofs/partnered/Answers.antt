-- `witness_check::partnered` meets its contract: each run is tested for a partner (`partners_told`). Assumes nothing.
use Rattle.std.proofs.Common.{ℕ, ◌≡◌, rules, tests}
use Rattle.std.proofs.lemmas.Iterator.{YieldsList-from_slice}
use Rattle.std.proofs.lemmas.Iterator.Search.{all_from_yields_List}
use Rattle.isomorphism_laws.specs.Moving.{moved_names}
use Rattle.regular.specs.Same.{moved}
use Rattle.witness_check.specs.Partners.{has_partner, partners_told}
use Rattle.witness_check.proofs.partnered.Goals as goal

pub returns : goal.returns
returns c =
    let a = c.args in
    let names = c.array_of-all in
    let is : (x : ℕ) → moved names.result a.n x ≡ moved a.names.now a.n x = λ x. moved_names names.result a.names.now a.n x (λ f _. names.ensures f) in
    let all = all_from_yields_List (has_partner a.n a.second.now a.names.now a.mask (moved names.result a.n) is) _ _ c.all.result c.all.ensures.ran
    (YieldsList-from_slice a.first.now cc) (λ x b q k. search (rules, tests)) in
    rw all (partners_told a.n a.second.now a.names.now a.mask (moved names.result a.n) is a.first.now)
