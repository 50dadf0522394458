use Rattle.std.proofs.Common.{◌≡◌, length, refl, sym, ap, ◌∙◌, rules}
use Rattle.std.proofs.lemmas.List.FromFn.{length-map-range_with_len}
use Rattle.tm_tree.specs.Changes.{fill_byte}
use Rattle.tm_tree.specs.Contents.{Contents}
use Rattle.tm_tree.specs.declared.change.Change.{Change}
use Rattle.tm_tree.specs.declared.change.Change.TheVariants as change
use Rattle.tm_changes.specs.Fitting.{staged_len}
use Rattle.tm_volume.specs.Seen.{volume_on}
use Rattle.tm_changes.specs.Writes.{IsFixing, staged_data}
use Rattle.tm_changes.proofs.data.data_of.Goals as goal

fixed_len : (v : Contents) (c : Change) → IsFixing c → length (staged_data v c) ≡ staged_len v c
fixed_len v (change.Fix p) is = refl
fixed_len v (change.Unfix p) is = refl
fixed_len v _ is = absurd is

pub returns-in_ok-fill_bytes-in-Fill-clause-length : goal.returns-in_ok-fill_bytes-in-Fill-clause-length
returns-in_ok-fill_bytes-in-Fill-clause-length g c = λ bytes.
    ap length c.in_ok-fill_bytes-in-Fill.ensures ∙ length-map-range_with_len (fill_byte _) 0 _ ∙ sym (ap (staged_len (volume_on c.args.volume.now bytes).contents) c.in-Fill.is)

pub returns-in_ok-fixed_data-in-Fix-clause-length : goal.returns-in_ok-fixed_data-in-Fix-clause-length
returns-in_ok-fixed_data-in-Fix-clause-length g c = λ bytes.
    ap length (c.in_ok-fixed_data-in-Fix.ensures bytes) ∙ fixed_len (volume_on c.args.volume.now bytes).contents c.args.change.now (search rules)
