-- Where the text of a table lies: on a chain of blocks. What it says is no matter here.
use Rattle.std.specs.Prelude.{◌≡◌, ℕ, List, length, slice_index}
use Rattle.tm_chain.specs.Chain.{LiesOn, chain_len}

-- the blocks, in the order of the chain
abbrev pub Layout : Type 0
Layout = List ℕ

-- all its blocks
abbrev pub places : Layout → List ℕ
places layout = layout

-- what a root says of it
abbrev pub first_of : Layout → ℕ
first_of layout = slice_index layout 0

-- how many blocks a text of so many bytes takes
abbrev pub blocks_for : ℕ → ℕ
blocks_for len = chain_len len

-- the text lies there
pub record LiesAt (layout : Layout) (text : List ℕ) (bytes : ℕ → List ℕ) : Type 0 where
  pub many : length layout ≡ chain_len (length text)
  pub lies : LiesOn layout text bytes
