-- What stands at the path of a file that is written.
use Rattle.std.proofs.Common.{◌≡◌, ℕ, Bool, false, refl, ap, ◌∙◌, subst, Result, Ok, Err}
use Rattle.tm_base.specs.Paths.{Names}
use Rattle.tm_base.specs.declared.refused.Refused.{Refused}
use Rattle.tm_base.specs.declared.refused.Refused.TheVariants.{NotFound}
use Rattle.tm_items.specs.Changes.{Are}
use Rattle.tm_items.specs.Finding.{FoundAt}
use Rattle.tm_items.specs.Placings.{Items}
use Rattle.tm_tree.specs.declared.item.Item.{Item}
use Rattle.tm_tree.specs.declared.item.Item.TheVariants as item
use Rattle.tm_tree.specs.declared.record.ItemBody.{ItemBody}
use Rattle.tm_tree.specs.declared.record.ItemRow.{ItemRow}
use Rattle.tm_tree.specs.declared.walk.Way.{Way}
use Rattle.tm_tree.specs.Trees.{Tree, item_at}
use Rattle.tm_tree.specs.Walks.{walk, way_of, is_at_file, is_at_folder, is_at_link}
use Rattle.tm_changes.specs.declared.target.Target.TheVariants.{Nothing}
use Rattle.tm_volume.specs.Room.{body_of, placed_row}
use Rattle.tm_changes.specs.Targets.{IsFileAt, MeetsTarget, target_by, target_of}
use Rattle.tm_changes.proofs.Destinations.{none_of}
use Rattle.tm_volume.proofs.Counting.{nothing_at}

module _ (items : Items) (t : Tree) (p : Names) where
  -- a question to the way that the walk goes
  asked : (test : Way → Bool) (r : Result Item Refused) → walk t p ≡ r → test (way_of (walk t p)) ≡ test (way_of r)
  asked test r is = ap (λ (x : Result Item Refused). test (way_of x)) is

  by_item : (n : ℕ) (row : ItemRow) (e : Item) → walk t p ≡ Ok e → IsFileAt items t p n row → MeetsTarget items t p (target_by n row (body_of e))
  by_item n row (item.Folder attrs) comes file = let r : Result Item Refused = Ok (item.Folder attrs) in (record { folder = asked is_at_folder r comes; link = asked is_at_link r comes; file = asked is_at_file r comes }, tt)
  by_item n row (item.File attrs stamp bytes) comes file =
      let r : Result Item Refused = Ok (item.File attrs stamp bytes) in (record { folder = asked is_at_folder r comes; link = asked is_at_link r comes; file = asked is_at_file r comes }, file)
  by_item n row (item.Link attrs stamp target) comes file =
      let r : Result Item Refused = Ok (item.Link attrs stamp target) in (record { folder = asked is_at_folder r comes; link = asked is_at_link r comes; file = asked is_at_file r comes }, tt)

  -- by the record of the item to which the walk comes
  pub target_is : (n : ℕ) (row : ItemRow) (found : FoundAt items t p n) → placed_row found.placed ≡ row → MeetsTarget items t p (target_of n row)
  target_is n row found is =
      subst (λ (b : ItemBody). MeetsTarget items t p (target_by n row b)) (ap (λ (r : ItemRow). r.body) is)
      (by_item n row found.placed.item found.walk_is (record { found = found; row_is = is }))

  at_none : (why : Refused) → (is_at_folder (way_of (Err why)) ≡ false) × (is_at_link (way_of (Err why)) ≡ false) × (is_at_file (way_of (Err why)) ≡ false)
  at_none NotFound = (refl, refl, refl)
  at_none _ = (refl, refl, refl)

  -- where the walk stops nothing stands
  pub target_none : Are items t → (why : Refused) → walk t p ≡ Err why → MeetsTarget items t p Nothing
  target_none are why stops =
      let r : Result Item Refused = Err why in
      let no = at_none why in (
        record { folder = asked is_at_folder r stops ∙ no.0; link = asked is_at_link r stops ∙ no.1; file = asked is_at_file r stops ∙ no.2 },
        none_of (item_at t p) (nothing_at items t p why are stops),
      )
