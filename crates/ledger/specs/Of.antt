-- books_of    what a ledger holds
use Rattle.ledger.specs.declared.ledger.Ledger.{Ledger}
use Rattle.ledger.specs.Books.{Books}

abbrev pub books_of : Ledger → Books
books_of l = record { seats = l.seats; pool = l.pool; spare = l.spare; frame = l.frame }
