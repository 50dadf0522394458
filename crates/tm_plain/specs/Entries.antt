-- Entries as they are handed out.
use Rattle.std.specs.Prelude.{List, ℕ}
use Rattle.tm_plain.specs.declared.items.Entry.{Entry}
use Rattle.tm_tree.specs.declared.item.Item.{Item}

-- an entry's name and item
abbrev pub named : Entry → List ℕ × Item
named e = (e.name.now, e.item.now)
