-- The records of a new volume.
use Rattle.std.specs.Prelude.{ℕ, None, List, [], ◌∷◌}
use Rattle.tm_nodes.specs.declared.volume.VolumeHead.{VolumeHead}
use Rattle.tm_nodes.specs.Headers.{volume_text}
use Rattle.tm_nodes.specs.Items.{item_text}
use Rattle.tm_records.specs.declared.record.Body.TheVariants.{Empty}
use Rattle.tm_records.specs.declared.record.Put.{Put}
use Rattle.tm_tree.specs.declared.record.ItemBody.TheVariants as body
use Rattle.tm_tree.specs.declared.record.ItemRow.{ItemRow}
use Rattle.tm_tree.specs.Items.{new_attrs}
use Rattle.tm_volume_records.specs.Records.{head_key, item_key}

-- the root: a new folder of mode 755
abbrev pub root_row : ℕ → ItemRow
root_row moment = record { parent = 0; name = None; body = body.Folder (new_attrs 493 moment) }

-- the head, whose data are no fixed paths, and the root, which is item 1
abbrev pub first_puts : VolumeHead → ℕ → List Put
first_puts head moment =
    record { key = head_key; meta = volume_text head; body = Empty } ∷ record { key = item_key 1; meta = item_text (root_row moment); body = Empty } ∷ []
