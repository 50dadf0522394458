use Rattle.std.proofs.Common.{◌≡◌, ◌∙◌, [], sym}
use Rattle.tm_tree.specs.Trees.{IsTree}
use Rattle.tm_volume.specs.Seen.{tree_on}
use Rattle.tm_backup.specs.Shown.{shown_rows}
use Rattle.tm_backup.proofs.Looks.{kept_listed, tree_listed, fixed_listed}
use Rattle.tm_backup.proofs.Viewing.{listing_there, listing_shown}
use Rattle.tm_backup.proofs.view.list_view.Goals as goal

pub unreachable-requires : goal.unreachable-requires
unreachable-requires c =
    let v = c.args.volume.now in
    listing_there v.fixed (tree_on v (λ b. [])) c.args.path.now (c.requires.shown (λ b. [])) (sym (c.in_ok-listing.ensures.listing (λ b. [])) ∙ c.in_default.is)

pub shown_rows-requires-clause-kept : goal.shown_rows-requires-clause-kept
shown_rows-requires-clause-kept c = kept_listed c.args.volume.now c.list.new.self _ c.in_ok-listing.ensures.looks c.requires.kept

pub returns-clause-listing : goal.returns-clause-listing
returns-clause-listing c = λ bytes.
    let v = c.args.volume.now in
    let w = c.list.new.self in
    let t = tree_on v bytes in
    let p = c.args.path.now in
    let tree : IsTree t = c.items_keep_bounds.ensures.tree v bytes c.requires.kept in
    let same : tree_on w bytes ≡ t = tree_listed v w _ c.in_ok-listing.ensures.looks bytes in
    let fixed : w.fixed ≡ v.fixed = fixed_listed v w _ c.in_ok-listing.ensures.looks in
    listing_shown v.fixed t p c.in-Some.listing c.in_ok-rows.rows.items tree (c.requires.shown bytes)
    (sym (c.in_ok-listing.ensures.listing bytes) ∙ c.in-Some.is)
    (c.in_ok-rows.ensures.shown bytes ∙ (λ j. shown_rows (fixed j) (same j) p))
