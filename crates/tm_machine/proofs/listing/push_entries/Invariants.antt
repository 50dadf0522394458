use Rattle.std.proofs.Common.{◌≡◌, ◌++◌, ℕ, List, true, Ok, map, drop}
use Rattle.tm_tree.specs.declared.item.Item.{Item}
use Rattle.tm_tree.specs.Items.{is_folder}
use Rattle.tm_tree.specs.Listings.{entries_of, list_rows}
use Rattle.tm_tree.specs.Walks.{walk}
use Rattle.tm_volume.specs.Seen.{tree_on}
use Rattle.tm_machine.specs.Queries.{named_row}
use Rattle.tm_machine.proofs.listing.push_entries.Given as goal

-- what is left to add completes the lines
abbrev pub invariant-loop-row : goal.invariant-loop-row
invariant-loop-row l = (bytes : ℕ → List ℕ) (folder : Item) → walk (tree_on l.volume bytes) l.path ≡ Ok folder → is_folder folder ≡ true → l.entries ≡ list_rows (tree_on l.volume bytes) l.path
    → l.rows ++ map named_row (drop l.row-index (entries_of (tree_on l.volume bytes) l.path)) ≡ l.initial.rows ++ map named_row (entries_of (tree_on l.volume bytes) l.path)
