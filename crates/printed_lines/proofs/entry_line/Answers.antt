-- An entry of a catalogue has no fault, so the calls on it give its resolution and pattern. Assumes nothing.
use Rattle.printed_lines.proofs.Entries.{listed_gives, listed_fills, listed_given, listed_filled}
use Rattle.printed_lines.proofs.entry_line.Goals as goal

pub unwrap-resolution-requires : goal.unwrap-resolution-requires
unwrap-resolution-requires c = listed_given c.requires.0 c.resolution_of.result c.resolution_of.ensures

pub unwrap-requires : goal.unwrap-requires
unwrap-requires c = let l = c.requires.0 in listed_filled l c.pattern_of.result l.size.most c.pattern_of.ensures

pub returns : goal.returns
returns c =
    let e = c.add_entry.ensures in
    let l = c.requires.0 in
    let given = rw c.unwrap-resolution.ensures at c.resolution_of.ensures in (
      record {
        resolution = _;
        pattern = _;
        is_resolution = listed_gives l given;
        is_pattern = listed_fills l l.size.most c.pattern_of.ensures;
        text = e.0;
      },
      e.1,
    )
