-- What a call keeps, over the rules that say what it does.
--
-- Keeps       as many tokens as before, and settled seats stay settled
-- Spends      one token fewer, and settled seats stay settled
-- SpendsMany  so many tokens fewer, and settled seats stay settled
use Rattle.std.specs.Prelude.{◌≡◌, ℕ, ◌+◌}
use Rattle.ledger.specs.Books.{Books, tokens}
use Rattle.ledger.specs.Settled.{Settled}

pub record Keeps (before after : Books) : Type 0 where
  pub same_tokens : tokens after ≡ tokens before
  pub settled : Settled before → Settled after

pub record Spends (before after : Books) : Type 0 where
  pub one_less : tokens after + 1 ≡ tokens before
  pub settled : Settled before → Settled after

pub record SpendsMany (failed : ℕ) (before after : Books) : Type 0 where
  pub so_many_less : tokens after + failed ≡ tokens before
  pub settled : Settled before → Settled after
