-- The directory of a table: an entry for each page, in order.
use Rattle.std.specs.Prelude.{◌≡◌, ◌≤◌, ◌<◌, ◌+◌, ◌*◌, ℕ, List, [], ◌∷◌, ◌++◌, length, slice_index, drop}
use Rattle.std.specs.List.{flat_map, All}
use Rattle.tm_blockmap.specs.Counts.{times}
use Rattle.tm_codec.specs.Fields.{u16_text, u32_text}
use Rattle.tm_codec.specs.Places.{IsTextAt}
use Rattle.tm_pages.specs.declared.page.Page.{Page}
use Rattle.tm_pages.specs.Paged.{IsPaged, lengths, blocks_of}

-- a page's block and length
unfoldable pub entry_text : Page → List ℕ
entry_text p = u32_text p.block ++ u16_text p.length

-- one entry after another
unfoldable pub directory_text : List Page → List ℕ
directory_text pages = flat_map entry_text pages

-- pages that keep the rules, on distinct blocks of the map that it marks as free
pub record IsDirectory (marks : List ℕ) (pages : List Page) : Type 0 where
  pub paged : IsPaged (lengths pages)
  pub within : All (λ p. p.block < length marks) pages
  pub apart : (b : ℕ) → times b (blocks_of pages) + slice_index marks b ≤ 1

-- at this offset begins the first entry that breaks a rule: those before it keep them, the text goes on, and no entry that
-- keeps them with those stands there
pub record BreaksAt (marks directory : List ℕ) (offset : ℕ) : Type 0 where
  pub way : List Page
  pub good : IsDirectory marks way
  pub starts : directory ≡ directory_text way ++ drop offset directory
  pub reaches : offset ≡ 6 * length way
  pub goes_on : offset < length directory
  pub none : (p : Page) → IsTextAt (entry_text p) offset directory → IsDirectory marks (way ++ p ∷ []) → ⊥
