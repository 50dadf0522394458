use Rattle.std.proofs.Common.{◌≡◌, ◌∙◌, false, ap, sym}
use Rattle.tm_tree.specs.Contents.{is_fixed}
use Rattle.tm_tree.specs.Trees.{item_at}
use Rattle.tm_volume.specs.Seen.{tree_on}
use Rattle.tm_backup.proofs.Viewing.{file_out, link_out}
use Rattle.tm_backup.proofs.view.is_out.Goals as goal

pub returns-in-File-clause-out : goal.returns-in-File-clause-out
returns-in-File-clause-out c = λ bytes.
    let v = c.args.volume.now in
    let p = c.args.place.now in
    let s = c.requires bytes in
    let off : is_fixed v.fixed p ≡ false = ap (λ fixed. is_fixed fixed p) (sym c.fixed.ensures) ∙ sym c.is_fixed.ensures ∙ c.if-is_fixed.false in
    file_out v.fixed p (item_at (tree_on v bytes) p) c.in-File.attrs c.in-File.stamp c.in-File.length c.has_exclusion.result (s.0, s.1, s.2 ∙ c.in-File.is) off c.has_exclusion.ensures

pub returns-in-Link-clause-out : goal.returns-in-Link-clause-out
returns-in-Link-clause-out c = λ bytes.
    let v = c.args.volume.now in
    let p = c.args.place.now in
    let s = c.requires bytes in
    let off : is_fixed v.fixed p ≡ false = ap (λ fixed. is_fixed fixed p) (sym c.fixed.ensures) ∙ sym c.is_fixed.ensures ∙ c.if-is_fixed.false in
    link_out v.fixed p (item_at (tree_on v bytes) p) c.in-Link.attrs c.in-Link.stamp c.in-Link.target c.has_exclusion-in-Link.result (s.0, s.1, s.2 ∙ c.in-Link.is) off c.has_exclusion-in-Link.ensures
