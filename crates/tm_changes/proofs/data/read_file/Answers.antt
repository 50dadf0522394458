use Rattle.std.proofs.Common.{◌≡◌, ℕ, ◌+◌, ◌<◌, ◌≤◌, true, length, refl, Option, Some, None, arith}
use Rattle.std.specs.Option.{option_map_or}
use Rattle.std.proofs.lemmas.Bool.Decides.{nat_tests}
use Rattle.tm_tree.specs.declared.item.Item.{Item}
use Rattle.tm_tree.specs.declared.item.Item.TheVariants as item
use Rattle.tm_tree.specs.Items.{bytes_of, is_file}
use Rattle.tm_tree.specs.Trees.{item_at}
use Rattle.tm_volume.specs.Seen.{tree_on}
use Rattle.tm_changes.proofs.data.read_file.Goals as goal

-- an item with bytes is a file
has_bytes : (o : Option Item) (n : ℕ) → n ≡ option_map_or (λ e. length (bytes_of e)) o 0 → 0 < n → (e : Item) × (o ≡ Some e) × (is_file e ≡ true) × (0 + n ≤ length (bytes_of e))
has_bytes None n is some = absurd (omega (arith, is, some))
has_bytes (Some (item.Folder attrs)) n is some = absurd (omega (arith, is, some))
has_bytes (Some (item.File attrs stamp bytes)) n is some = (item.File attrs stamp bytes, refl, refl, omega (arith, is))
has_bytes (Some (item.Link attrs stamp target)) n is some = absurd (omega (arith, is, some))

pub read_part-requires-clause-file : goal.read_part-requires-clause-file
read_part-requires-clause-file g c = λ bytes.
    has_bytes (item_at (tree_on c.args.volume.now bytes) c.args.path.now) (length c.args.into.now) (c.requires.length bytes) (grind (arith, nat_tests))
