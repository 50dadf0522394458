use Rattle.std.proofs.Common.{◌≡◌, Some, length, slice_get, refl, arith, subst}
use Rattle.std.proofs.lemmas.Option.{slice_get_read}
use Rattle.tm_store_records.specs.Located.{Comes, DoneIn, LocationsTell}
use Rattle.tm_store_records.proofs.locations.Locations.pass_entries.Goals as goal

pub loop-child-init : goal.loop-child-init
loop-child-init c = record { here = c.requires; tell = λ g roots place are tell. tell }

pub step-requires : goal.step-requires
step-requires c = c.loop-child.invariant.here

pub loop-child-preserved : goal.loop-child-preserved
loop-child-preserved c = record {
  here = c.in_ok-step.ensures.here;
  tell = λ g roots place are tell.
      let children = c.args.children.now in
      let index = c.loop-child.child-index in
      let child = c.child-item.result in
      let is : slice_get children index ≡ Some child = slice_get_read children (length children) index child refl (omega arith) c.child-item.is in
      c.in_ok-step.ensures.tell g roots place index (are index child is) (c.loop-child.invariant.tell g roots place are tell);
}

pub returns : goal.returns
returns c = λ g roots place are tell.
    let all : c.loop-child.child-index ≡ length c.args.children.now = omega arith in
    subst (λ n. LocationsTell g roots (Comes g roots (DoneIn g place n)) c.loop-child.self) all (c.loop-child.invariant.tell g roots place are tell)
