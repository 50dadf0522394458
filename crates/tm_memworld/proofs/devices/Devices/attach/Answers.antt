use Rattle.std.proofs.Common.{◌≡◌, ◌∙◌, Some, None, inl, inr, refl, sym, ap, subst, rules, arith}
use Rattle.tm_world.specs.Disk.{Disk, nothing, zeros}
use Rattle.tm_world.specs.Outside.{place, put_at, with_place, attached, part_of}
use Rattle.tm_world.specs.Log.{Steps}
use Rattle.tm_world.specs.Runs.{other}
use Rattle.tm_world.proofs.Sides.{is_place-sym}
use Rattle.tm_memworld.specs.Sites.{site_at, path_at, IsFirst, IsNowhere}
use Rattle.tm_memworld.specs.Contents.{attached_at}
use Rattle.tm_memworld.specs.Devices.{contents_of, log_of, outside, places_of, cannot_open}
use Rattle.tm_memworld.proofs.Going.{site_is}
use Rattle.tm_memworld.proofs.Attaching.{attached-standing, attached-none, attached-made, disk-put_at_other}
use Rattle.tm_memworld.proofs.Opening.{none_is, unknown, can, cannot_so, disk_of-none, there-some, count-some, standing, empty_there, too_long, too_few, other_there, enough, none_stands, no_room, stands_is, room_is, small_is, at_other, not_at_other, disk_then, disk_beside, stands-put_at}
use Rattle.tm_memworld.proofs.devices.Devices.attach.Goals as goal
use Rattle.tm_memworld.proofs.devices.Devices.attach.Goals.{then-is_some-via-then-is_some, then-is_some-via-else-is_some+then-path-gt-SHORT_PATH, then-count-capacity-via-then-count-capacity, then-count-capacity-via-else-count-capacity+then-eq}

pub returns-then-is_some-clause-none : goal.returns-then-is_some-clause-none
returns-then-is_some-clause-none c =
    let d = c.args.self.now in
    let nowhere : IsNowhere d.sites.items c.args.path.now = subst (λ xs. IsNowhere xs c.args.path.now) c.deref.ensures.value c.in_default.ensures.none in
    let none = none_stands d c.args.path.now nowhere in
    cannot_so (cannot_open c.args.side c.args.path.now c.args.create (places_of d) (outside d))
    (empty_there c.args.side c.args.path.now c.args.create (places_of d) (outside d) none
    ∙ unknown c.args.side c.args.path.now c.args.create (places_of d) (outside d) (no_room d c.args.path.now nowhere) c.requires.create (elim c.then-is_some.branch [
      | then-is_some-via-then-is_some w ↦ inl (search rules)
      | then-is_some-via-else-is_some+then-path-gt-SHORT_PATH w ↦ inr w.if-path-gt-SHORT_PATH.true
    ]))

pub returns-in_default-clause-steps : goal.returns-in_default-clause-steps
returns-in_default-clause-steps c =
    let d = c.args.self.now in
    let nowhere : IsNowhere d.sites.items c.args.path.now = subst (λ xs. IsNowhere xs c.args.path.now) c.deref.ensures.value c.in_default.ensures.none in
    let create : c.args.create ≡ None = none_is c.args.create (sym c.if-is_some.ensures) in
    subst (Steps (log_of d) (log_of c.attach_new.new.self))
    (attached-none c.args.side c.args.path.now (outside d) (none_stands d c.args.path.now nowhere) ∙ ap (λ o. attached (part_of c.args.side) c.args.path.now o (outside d)) (sym create))
    c.attach_new.ensures.steps

pub returns-in_default-clause-count : goal.returns-in_default-clause-count
returns-in_default-clause-count c =
    let d = c.args.self.now in
    let nowhere : IsNowhere d.sites.items c.args.path.now = subst (λ xs. IsNowhere xs c.args.path.now) c.deref.ensures.value c.in_default.ensures.none in
    sym (ap (λ (e : Disk). e.count) (disk_then (log_of d) (log_of c.attach_new.new.self) c.args.side c.args.path.now (outside d) c.attach_new.ensures.steps ∙ none_stands d c.args.path.now nowhere))

pub returns-in_default-clause-other : goal.returns-in_default-clause-other
returns-in_default-clause-other c =
    let d = c.args.self.now in
    ap (λ (e : Disk). e.count) (disk_beside (log_of d) (log_of c.attach_new.new.self) c.args.side c.args.path.now (outside d) c.attach_new.ensures.steps)

-- E3: an image stands there
pub returns-in-Some-count-clause-none : goal.returns-in-Some-count-clause-none
returns-in-Some-count-clause-none c =
    let d = c.args.self.now in
    let first : IsFirst d.sites.items c.in-Some.i = subst (λ xs. IsFirst xs c.in-Some.i) c.deref.ensures.value c.in-Some.ensures.first in
    let path_is : path_at d.sites.items c.in-Some.i ≡ c.args.path.now = subst (λ xs. path_at xs c.in-Some.i ≡ c.args.path.now) c.deref.ensures.value c.in-Some.ensures.path in
    let is = stands_is d c.args.path.now c.in-Some.i c.index.result.now first path_is (site_is d.sites.items c.in-Some.i c.index.result.now first.within c.index.ensures) in
    can (cannot_open c.args.side c.args.path.now c.args.create (places_of d) (outside d))
    (standing c.args.side c.args.path.now c.args.create (places_of d) (outside d) (ap (λ (e : Disk). e.there) is ∙ there-some c.index.result.now c.in-Some-count.count (sym c.in-Some-count.ensures)))

pub returns-in-Some-count-clause-steps : goal.returns-in-Some-count-clause-steps
returns-in-Some-count-clause-steps c =
    let d = c.args.self.now in
    let first : IsFirst d.sites.items c.in-Some.i = subst (λ xs. IsFirst xs c.in-Some.i) c.deref.ensures.value c.in-Some.ensures.first in
    let path_is : path_at d.sites.items c.in-Some.i ≡ c.args.path.now = subst (λ xs. path_at xs c.in-Some.i ≡ c.args.path.now) c.deref.ensures.value c.in-Some.ensures.path in
    let is = stands_is d c.args.path.now c.in-Some.i c.index.result.now first path_is (site_is d.sites.items c.in-Some.i c.index.result.now first.within c.index.ensures) in
    subst (Steps (log_of d) (log_of c.attach_found.new.self))
    (ap (λ p. with_place c.args.side (Some p) (outside d)) path_is
    ∙ attached-standing c.args.side c.args.path.now c.args.create (outside d) (ap (λ (e : Disk). e.there) is ∙ there-some c.index.result.now c.in-Some-count.count (sym c.in-Some-count.ensures)))
    c.attach_found.ensures.steps

pub returns-in-Some-count-clause-count : goal.returns-in-Some-count-clause-count
returns-in-Some-count-clause-count c =
    let d = c.args.self.now in
    let first : IsFirst d.sites.items c.in-Some.i = subst (λ xs. IsFirst xs c.in-Some.i) c.deref.ensures.value c.in-Some.ensures.first in
    let path_is : path_at d.sites.items c.in-Some.i ≡ c.args.path.now = subst (λ xs. path_at xs c.in-Some.i ≡ c.args.path.now) c.deref.ensures.value c.in-Some.ensures.path in
    let is = stands_is d (path_at d.sites.items c.in-Some.i) c.in-Some.i c.index.result.now first refl (site_is d.sites.items c.in-Some.i c.index.result.now first.within c.index.ensures) in
    sym (ap (λ (e : Disk). e.count) (disk_then (log_of d) (log_of c.attach_found.new.self) c.args.side (path_at d.sites.items c.in-Some.i) (outside d) c.attach_found.ensures.steps ∙ is)
    ∙ count-some c.index.result.now c.in-Some-count.count (sym c.in-Some-count.ensures))

pub returns-in-Some-count-clause-most : goal.returns-in-Some-count-clause-most
returns-in-Some-count-clause-most c =
    let d = c.args.self.now in
    let first : IsFirst d.sites.items c.in-Some.i = subst (λ xs. IsFirst xs c.in-Some.i) c.deref.ensures.value c.in-Some.ensures.first in
    omega (
      arith,
      small_is d (path_at d.sites.items c.in-Some.i) c.in-Some.i c.index.result.now first refl (site_is d.sites.items c.in-Some.i c.index.result.now first.within c.index.ensures),
      count-some c.index.result.now c.in-Some-count.count (sym c.in-Some-count.ensures),
    )

pub returns-in-Some-count-clause-other : goal.returns-in-Some-count-clause-other
returns-in-Some-count-clause-other c =
    let d = c.args.self.now in
    ap (λ (e : Disk). e.count) (disk_beside (log_of d) (log_of c.attach_found.new.self) c.args.side (path_at d.sites.items c.in-Some.i) (outside d) c.attach_found.ensures.steps)

-- E4: the path is too long
pub returns-then-path-gt-SHORT_PATH-2-clause-none : goal.returns-then-path-gt-SHORT_PATH-2-clause-none
returns-then-path-gt-SHORT_PATH-2-clause-none c =
    let d = c.args.self.now in
    let first : IsFirst d.sites.items c.in-Some.i = subst (λ xs. IsFirst xs c.in-Some.i) c.deref.ensures.value c.in-Some.ensures.first in
    let path_is : path_at d.sites.items c.in-Some.i ≡ c.args.path.now = subst (λ xs. path_at xs c.in-Some.i ≡ c.args.path.now) c.deref.ensures.value c.in-Some.ensures.path in
    let none : (outside d).stands (Some c.args.path.now) ≡ nothing =
    stands_is d c.args.path.now c.in-Some.i c.index.result.now first path_is (site_is d.sites.items c.in-Some.i c.index.result.now first.within c.index.ensures) ∙ disk_of-none c.index.result.now (sym c.in_default-count.ensures) in
    let create : c.args.create ≡ None = search rules in
    cannot_so (cannot_open c.args.side c.args.path.now c.args.create (places_of d) (outside d))
    (ap (λ o. cannot_open c.args.side c.args.path.now o (places_of d) (outside d)) create ∙ empty_there c.args.side c.args.path.now None (places_of d) (outside d) none
    ∙ too_long c.args.side c.args.path.now (places_of d) (outside d) c.if-path-gt-SHORT_PATH-2.true)

-- E5: nothing stands there, and nothing is made
pub returns-in_default-create-clause-steps : goal.returns-in_default-create-clause-steps
returns-in_default-create-clause-steps c =
    let d = c.args.self.now in
    let first : IsFirst d.sites.items c.in-Some.i = subst (λ xs. IsFirst xs c.in-Some.i) c.deref.ensures.value c.in-Some.ensures.first in
    let path_is : path_at d.sites.items c.in-Some.i ≡ c.args.path.now = subst (λ xs. path_at xs c.in-Some.i ≡ c.args.path.now) c.deref.ensures.value c.in-Some.ensures.path in
    let none : (outside d).stands (Some c.args.path.now) ≡ nothing =
    stands_is d c.args.path.now c.in-Some.i c.index.result.now first path_is (site_is d.sites.items c.in-Some.i c.index.result.now first.within c.index.ensures) ∙ disk_of-none c.index.result.now (sym c.in_default-count.ensures) in
    let create : c.args.create ≡ None = search rules in
    subst (Steps (log_of d) (log_of c.attach_found-in_default-create.new.self))
    (ap (λ p. with_place c.args.side (Some p) (outside d)) path_is
    ∙ attached-none c.args.side c.args.path.now (outside d) none ∙ ap (λ o. attached (part_of c.args.side) c.args.path.now o (outside d)) (sym create))
    c.attach_found-in_default-create.ensures.steps

pub returns-in_default-create-clause-count : goal.returns-in_default-create-clause-count
returns-in_default-create-clause-count c =
    let d = c.args.self.now in
    let first : IsFirst d.sites.items c.in-Some.i = subst (λ xs. IsFirst xs c.in-Some.i) c.deref.ensures.value c.in-Some.ensures.first in
    let is = stands_is d (path_at d.sites.items c.in-Some.i) c.in-Some.i c.index.result.now first refl (site_is d.sites.items c.in-Some.i c.index.result.now first.within c.index.ensures) in
    sym (ap (λ (e : Disk). e.count) (disk_then (log_of d) (log_of c.attach_found-in_default-create.new.self) c.args.side (path_at d.sites.items c.in-Some.i) (outside d) c.attach_found-in_default-create.ensures.steps ∙ is
    ∙ disk_of-none c.index.result.now (sym c.in_default-count.ensures)))

pub returns-in_default-create-clause-other : goal.returns-in_default-create-clause-other
returns-in_default-create-clause-other c =
    let d = c.args.self.now in
    ap (λ (e : Disk). e.count) (disk_beside (log_of d) (log_of c.attach_found-in_default-create.new.self) c.args.side (path_at d.sites.items c.in-Some.i) (outside d) c.attach_found-in_default-create.ensures.steps)

-- E6: there is not enough memory, or the other side is there
pub returns-then-count-capacity-clause-none : goal.returns-then-count-capacity-clause-none
returns-then-count-capacity-clause-none c =
    let d = c.args.self.now in
    let first : IsFirst d.sites.items c.in-Some.i = subst (λ xs. IsFirst xs c.in-Some.i) c.deref.ensures.value c.in-Some.ensures.first in
    let path_is : path_at d.sites.items c.in-Some.i ≡ c.args.path.now = subst (λ xs. path_at xs c.in-Some.i ≡ c.args.path.now) c.deref.ensures.value c.in-Some.ensures.path in
    let is : c.index.result.now ≡ site_at d.sites.items c.in-Some.i = site_is d.sites.items c.in-Some.i c.index.result.now first.within c.index.ensures in
    let none : (outside d).stands (Some c.args.path.now) ≡ nothing = stands_is d c.args.path.now c.in-Some.i c.index.result.now first path_is is ∙ disk_of-none c.index.result.now (sym c.in_default-count.ensures) in
    let room = room_is d c.args.path.now c.in-Some.i c.index-2.result.now first path_is (site_is d.sites.items c.in-Some.i c.index-2.result.now first.within c.index-2.ensures) in
    cannot_so (cannot_open c.args.side c.args.path.now c.args.create (places_of d) (outside d))
    (ap (λ o. cannot_open c.args.side c.args.path.now o (places_of d) (outside d)) c.in-Some-create.is ∙ empty_there c.args.side c.args.path.now (Some c.in-Some-create.count) (places_of d) (outside d) none
    ∙ elim c.then-count-capacity.branch [
      | then-count-capacity-via-then-count-capacity w ↦ too_few c.args.side c.args.path.now c.in-Some-create.count (places_of d) (outside d) (omega (arith, room, c.capacity.ensures.count, w.if-count-capacity.true))
      | then-count-capacity-via-else-count-capacity+then-eq w ↦ other_there c.args.side c.args.path.now c.in-Some-create.count (places_of d) (outside d)
          (at_other d c.args.path.now c.in-Some.i c.index.result.now first path_is is (other c.args.side)
          (sym (w.site_of.ensures ∙ ap (λ a. attached_at a (contents_of d)) w.opposite.ensures) ∙ (search rules)))
    ])

-- E7: an image is made
pub returns-clause-none : goal.returns-clause-none
returns-clause-none c =
    let d = c.args.self.now in
    let first : IsFirst d.sites.items c.in-Some.i = subst (λ xs. IsFirst xs c.in-Some.i) c.deref.ensures.value c.in-Some.ensures.first in
    let path_is : path_at d.sites.items c.in-Some.i ≡ c.args.path.now = subst (λ xs. path_at xs c.in-Some.i ≡ c.args.path.now) c.deref.ensures.value c.in-Some.ensures.path in
    let is : c.index.result.now ≡ site_at d.sites.items c.in-Some.i = site_is d.sites.items c.in-Some.i c.index.result.now first.within c.index.ensures in
    let none : (outside d).stands (Some c.args.path.now) ≡ nothing = stands_is d c.args.path.now c.in-Some.i c.index.result.now first path_is is ∙ disk_of-none c.index.result.now (sym c.in_default-count.ensures) in
    let room = room_is d c.args.path.now c.in-Some.i c.index-2.result.now first path_is (site_is d.sites.items c.in-Some.i c.index-2.result.now first.within c.index-2.ensures) in
    can (cannot_open c.args.side c.args.path.now c.args.create (places_of d) (outside d))
    (ap (λ o. cannot_open c.args.side c.args.path.now o (places_of d) (outside d)) c.in-Some-create.is ∙ empty_there c.args.side c.args.path.now (Some c.in-Some-create.count) (places_of d) (outside d) none
    ∙ enough c.args.side c.args.path.now c.in-Some-create.count (places_of d) (outside d) (omega (arith, room, c.capacity.ensures.count, c.if-count-capacity.false))
    (not_at_other d c.args.path.now c.in-Some.i c.index.result.now first path_is is (other c.args.side)
    (λ at. let there : c.site_of.result ≡ Some c.in-Some.i = c.site_of.ensures ∙ ap (λ a. attached_at a (contents_of d)) c.opposite.ensures ∙ at in search rules)))

pub returns-clause-steps : goal.returns-clause-steps
returns-clause-steps c =
    let d = c.args.self.now in
    let first : IsFirst d.sites.items c.in-Some.i = subst (λ xs. IsFirst xs c.in-Some.i) c.deref.ensures.value c.in-Some.ensures.first in
    let path_is : path_at d.sites.items c.in-Some.i ≡ c.args.path.now = subst (λ xs. path_at xs c.in-Some.i ≡ c.args.path.now) c.deref.ensures.value c.in-Some.ensures.path in
    let none : (outside d).stands (Some c.args.path.now) ≡ nothing =
    stands_is d c.args.path.now c.in-Some.i c.index.result.now first path_is (site_is d.sites.items c.in-Some.i c.index.result.now first.within c.index.ensures) ∙ disk_of-none c.index.result.now (sym c.in_default-count.ensures) in
    subst (Steps (log_of d) (log_of c.attach_made.new.self))
    (ap (λ p. with_place c.args.side (Some p) (put_at (Some p) (zeros c.in-Some-create.count) (outside d))) path_is
    ∙ attached-made c.args.side c.args.path.now c.in-Some-create.count (outside d) none ∙ ap (λ o. attached (part_of c.args.side) c.args.path.now o (outside d)) (sym c.in-Some-create.is))
    c.attach_made.ensures.steps

pub returns-clause-count : goal.returns-clause-count
returns-clause-count c =
    let d = c.args.self.now in
    let path = path_at d.sites.items c.in-Some.i in
    sym (ap (λ (e : Disk). e.count) (disk_then (log_of d) (log_of c.attach_made.new.self) c.args.side path (put_at (Some path) (zeros c.in-Some-create.count) (outside d)) c.attach_made.ensures.steps
    ∙ stands-put_at path (zeros c.in-Some-create.count) (outside d)))

pub returns-clause-other : goal.returns-clause-other
returns-clause-other c =
    let d = c.args.self.now in
    let path = path_at d.sites.items c.in-Some.i in
    let first : IsFirst d.sites.items c.in-Some.i = subst (λ xs. IsFirst xs c.in-Some.i) c.deref.ensures.value c.in-Some.ensures.first in
    let is : c.index.result.now ≡ site_at d.sites.items c.in-Some.i = site_is d.sites.items c.in-Some.i c.index.result.now first.within c.index.ensures in
    ap (λ (e : Disk). e.count) (disk_beside (log_of d) (log_of c.attach_made.new.self) c.args.side path (put_at (Some path) (zeros c.in-Some-create.count) (outside d)) c.attach_made.ensures.steps
    ∙ disk-put_at_other (other c.args.side) (Some path) (zeros c.in-Some-create.count) (outside d)
    (is_place-sym (place (other c.args.side) (outside d)) (Some path) (not_at_other d path c.in-Some.i c.index.result.now first refl is (other c.args.side)
    (λ at. let there : c.site_of.result ≡ Some c.in-Some.i = c.site_of.ensures ∙ ap (λ a. attached_at a (contents_of d)) c.opposite.ensures ∙ at in search rules))))
