-- Before each turn the records before it are in the book.
use Rattle.book.specs.DesignLaws.{BookSoFar}
use Rattle.book.proofs.write_book_of_designs.Given as goal

abbrev pub invariant-loop-d : goal.invariant-loop-d
invariant-loop-d l = BookSoFar l.n l.g l.r l.list l.fn.out l.out l.d-index 0 l.at
