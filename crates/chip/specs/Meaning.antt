-- What a chip means, whatever it is made of.
--
-- Page       a page is free, spoiled, or written with a label and data
-- Meaning    the size of a chip, its allowance and its pages, block after block
-- nothing    the meaning of a chip that could not be made: no pages, all sizes 0
-- Shaped     every chip is nothing, or has its sizes in range and exactly its pages
-- page_at    the page of a number; past the end it reads as spoiled
use Rattle.std.specs.Prelude.{◌≡◌, ℕ, ◌*◌, ◌≤◌, ◌⊎◌, List, [], length, slice_index_or}

pub data Page : Type 0 where
  free : Page
  spoiled : Page
  written : (label : ℕ) (bytes : List ℕ) → Page

pub record Meaning : Type 0 where
  pub blocks : ℕ
  pub per_block : ℕ
  pub page_size : ℕ
  pub allowance : ℕ
  pub pages : List Page

abbrev pub nothing : Meaning
nothing = record { blocks = 0; per_block = 0; page_size = 0; allowance = 0; pages = [] }

pub record InRange (m : Meaning) : Type 0 where
  pub some_blocks : 1 ≤ m.blocks
  pub few_blocks : m.blocks ≤ 64
  pub some_pages : 2 ≤ m.per_block
  pub few_pages : m.per_block ≤ 32
  pub some_bytes : 1 ≤ m.page_size
  pub few_bytes : m.page_size ≤ 512
  pub few_failures : m.allowance ≤ 65535
  pub all_pages : length m.pages ≡ m.blocks * m.per_block

abbrev pub Shaped : Meaning → Type 0
Shaped m = (m ≡ nothing) ⊎ InRange m

abbrev pub page_at : Meaning → ℕ → Page
page_at m q = slice_index_or m.pages q spoiled
