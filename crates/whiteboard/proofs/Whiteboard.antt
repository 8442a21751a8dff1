-- The starred examples hold.
use Rattle.whiteboard.specs.Rows.{AllTrue}
use Rattle.whiteboard.specs.RowLaws.{table_true}
use Rattle.whiteboard.specs.Whiteboard.{table, every_row_passes}

-- every row of the table is true of the definitions
pub whiteboard : AllTrue table
whiteboard = table_true table every_row_passes
