-- Stamps that tell what is as it was.
use Rattle.std.specs.Prelude.{◌≡◌, Bool, true, false, ◌==◌, Some}
use Rattle.tm_base.specs.Paths.{Names}
use Rattle.tm_tree.specs.declared.item.Item.{Item}
use Rattle.tm_tree.specs.declared.item.Item.TheVariants.{File, Link}
use Rattle.tm_tree.specs.Trees.{Tree, item_at}
use Rattle.tm_fit.specs.Fit.{StampsAgree}

-- both are files, or both links, and they have one stamp
abbrev pub alike : Item → Item → Bool
alike (File a s x) (File b t y) = s == t
alike (Link a s x) (Link b t y) = s == t
alike _ _ = false

-- where an item stood at the same path that is alike, it is the same
abbrev pub StampsTell : Tree → Tree → Type 0
StampsTell old now = (p : Names) (d e : Item) → item_at old p ≡ Some d → item_at now p ≡ Some e → alike d e ≡ true → d ≡ e

-- where items with one stamp are equal, wherever they stand, stamps tell
abbrev pub AgreeingTell : Type 0
AgreeingTell = (old now : Tree) → StampsAgree old now → StampsTell old now
