-- A refusal is the catalogue's own; the entries of an accepted catalogue stand in the list, and their lines after the header. Assumes nothing.
use Rattle.std.proofs.Common.{arith}
use Rattle.printing.proofs.Entries.{all_listable}
use Rattle.printing.proofs.Printed.{refused_output, listing_output}
use Rattle.printing.proofs.size_output.Goals as goal

pub returns-then-number-ne0 : goal.returns-then-number-ne0
returns-then-number-ne0 c =
    let t = c.refused_line.ensures in
    refused_output c.fill-filled.ensures c.if-number-ne0.true t.0 (omega (arith, t.1, c.requires))

pub add_entries-requires : goal.add_entries-requires
add_entries-requires c =
    let l = all_listable _ _ _ _ _ _ _ c.fill-filled.ensures c.if-number-ne0.false in
    (l.0, l.1, c.header_line-end.ensures.1, omega (arith, c.header_line-end.ensures.0.size, c.requires))

pub returns : goal.returns
returns c =
    let t = c.add_entries.ensures in
    listing_output c.fill-filled.ensures c.if-number-ne0.false c.header_line-end.ensures.0 t.0 (omega (arith, t.1, c.requires))
