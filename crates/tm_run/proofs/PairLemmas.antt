-- What stands at the two sides after both are attached and synced.
use Rattle.std.proofs.Common.{if◌then◌else◌, ◌≡◌, ◌≢◌, ℕ, ◌≤◌, true, false, List, Option, Some, None, refl, sym, ap, ◌∙◌, subst, arith}
use Rattle.std.proofs.lemmas.Bool.{cond-true, cond-false, false_from_ne_true}
use Rattle.std.proofs.lemmas.Slice.Eq.{bytes_eq-Decides}
use Rattle.tm_machine.specs.Session.{IsSynced}
use Rattle.tm_world.specs.Disk.{Disk, Image, synced}
use Rattle.tm_world.specs.Outside.{Outside, Place, is_place, disk, put_at, put_disk, made, with_made, attached, AreApart}
use Rattle.tm_world.specs.Torn.{as_read}
use Rattle.tm_world.specs.declared.world.Part.TheVariants as part
use Rattle.tm_world.specs.declared.world.Side.TheVariants.{Volume as VolumeSide, Store as StoreSide}
use Rattle.tm_world.proofs.Disks.{loose_synced}
use Rattle.tm_world.proofs.Sides.{is_place-same, is_place-sym, disk-put_disk, disk_other-put_volume, disk_other-put_store, AreApart-put_disk}
use Rattle.tm_command.specs.Command.{IsCommand, IsCreate}
use Rattle.tm_run.specs.Pairs.{AreSmall, IsPair, found}
use Rattle.tm_base.specs.Limits.{max_blocks}

-- ---- attaching

pub places_differ : (v z : List ℕ) → v ≢ z → is_place (Some v) (Some z) ≡ false
places_differ v z apart = false_from_ne_true (is_place (Some v) (Some z)) (λ e. absurd (apart ((bytes_eq-Decides v z).0 e)))

pub made_here : (p : List ℕ) (create : Option ℕ) (s : Outside) → (with_made p create s).stands (Some p) ≡ found p create s
made_here p create s = elim ((s.stands (Some p)).there) as (λ b. (if b then s else put_at (Some p) (made create) s).stands (Some p) ≡ (if b then s.stands (Some p) else made create))
    [ true ↦ refl | false ↦ cond-true (is_place (Some p) (Some p)) (made create) (s.stands (Some p)) (is_place-same (Some p)) ]

pub made_other : (p : List ℕ) (q : Place) (create : Option ℕ) (s : Outside) → is_place (Some p) q ≡ false → (with_made p create s).stands q ≡ s.stands q
made_other p q create s apart = elim ((s.stands (Some p)).there) as (λ b. (if b then s else put_at (Some p) (made create) s).stands q ≡ s.stands q)
    [ true ↦ refl | false ↦ cond-false (is_place (Some p) q) (made create) (s.stands q) apart ]

-- the same path finds the same, where it stands as it stood
found_same : (p : List ℕ) (create : Option ℕ) (s t : Outside) → t.stands (Some p) ≡ s.stands (Some p) → found p create t ≡ found p create s
found_same p create s t same = ap (λ (d : Disk). if d.there then d else made create) same

pub volume_made : (p : List ℕ) (create : Option ℕ) (s : Outside) → (with_made p create s).volume ≡ s.volume
volume_made p create s = elim ((s.stands (Some p)).there) as (λ b. (if b then s else put_at (Some p) (made create) s).volume ≡ s.volume) [ true ↦ refl | false ↦ refl ]

pub said_made : (p : List ℕ) (create : Option ℕ) (s : Outside) → (with_made p create s).said ≡ s.said
said_made p create s = elim ((s.stands (Some p)).there) as (λ b. (if b then s else put_at (Some p) (made create) s).said ≡ s.said) [ true ↦ refl | false ↦ refl ]

attached_apart : (v z : List ℕ) (create : Option ℕ) (s : Outside) → is_place (Some v) (Some z) ≡ false → AreApart (attached part.Store z create (attached part.Volume v create s))
unfolding attached
attached_apart v z create s apart = subst (λ (p : Place). is_place p (Some z) ≡ false) (sym (volume_made z create (attached part.Volume v create s))) apart

-- what stands at the volume's side
volume_at : (v z : List ℕ) (create : Option ℕ) (s : Outside) → is_place (Some v) (Some z) ≡ false
    → disk VolumeSide (attached part.Store z create (attached part.Volume v create s)) ≡ found v create s
unfolding attached disk
volume_at v z create s apart =
    let t = attached part.Volume v create s in
    ap (λ (q : Place). (with_made z create t).stands q) (volume_made z create t)
    ∙ made_other z (Some v) create t (is_place-sym (Some v) (Some z) apart) ∙ made_here v create s

-- and at the store's
store_at : (v z : List ℕ) (create : Option ℕ) (s : Outside) → is_place (Some v) (Some z) ≡ false
    → disk StoreSide (attached part.Store z create (attached part.Volume v create s)) ≡ found z create s
unfolding attached disk
store_at v z create s apart =
    let t = attached part.Volume v create s in
    made_here z create t ∙ found_same z create s t (made_other v (Some z) create s apart)

pub pair_attached : (v z : List ℕ) (create : Option ℕ) (s : Outside) → v ≢ z
    → IsPair (as_read (found v create s)) (as_read (found z create s)) (attached part.Store z create (attached part.Volume v create s))
pair_attached v z create s differ =
    let apart = places_differ v z differ in
    record {
      apart = attached_apart v z create s apart;
      volume_is = ap as_read (volume_at v z create s apart);
      store_is = ap as_read (store_at v z create s apart);
    }

pub said_attached : (v z : List ℕ) (create : Option ℕ) (s : Outside) → (attached part.Store z create (attached part.Volume v create s)).said ≡ s.said
unfolding attached
said_attached v z create s = said_made z create (attached part.Volume v create s) ∙ said_made v create s

pub said_volume : (v : List ℕ) (create : Option ℕ) (s : Outside) → (attached part.Volume v create s).said ≡ s.said
unfolding attached
said_volume v create s = said_made v create s

-- ---- syncing

synced_reads : (d : Disk) → as_read (synced d) ≡ as_read d
unfolding synced
synced_reads d = refl

volume_synced : Outside → Outside
volume_synced s = put_disk VolumeSide (synced (disk VolumeSide s)) s

store_synced : Outside → Outside
store_synced s = put_disk StoreSide (synced (disk StoreSide s)) s

pub pair_synced : (v z : Image) (s t o : Outside) → IsPair v z s → t ≡ put_disk VolumeSide (synced (disk VolumeSide s)) s → o ≡ put_disk StoreSide (synced (disk StoreSide t)) t
    → IsPair v z o × IsSynced o
pair_synced v z s t o pair first second =
    let t_apart : AreApart t = subst AreApart (sym first) (AreApart-put_disk VolumeSide (synced (disk VolumeSide s)) s pair.apart) in
    let o_apart : AreApart o = subst AreApart (sym second) (AreApart-put_disk StoreSide (synced (disk StoreSide t)) t t_apart) in
    let t_volume : disk VolumeSide t ≡ synced (disk VolumeSide s) = ap (disk VolumeSide) first ∙ disk-put_disk VolumeSide (synced (disk VolumeSide s)) s in
    let t_store : disk StoreSide t ≡ disk StoreSide s = ap (disk StoreSide) first ∙ disk_other-put_volume (synced (disk VolumeSide s)) s pair.apart in
    let o_store : disk StoreSide o ≡ synced (disk StoreSide t) = ap (disk StoreSide) second ∙ disk-put_disk StoreSide (synced (disk StoreSide t)) t in
    let o_volume : disk VolumeSide o ≡ synced (disk VolumeSide s) = ap (disk VolumeSide) second ∙ disk_other-put_store (synced (disk StoreSide t)) t t_apart ∙ t_volume in (
      record {
        apart = o_apart;
        volume_is = ap as_read o_volume ∙ synced_reads (disk VolumeSide s) ∙ pair.volume_is;
        store_is = ap as_read o_store ∙ synced_reads (disk StoreSide t) ∙ ap as_read t_store ∙ pair.store_is;
      },
      record {
        apart = o_apart;
        volume_stable = λ b. ap (λ (d : Disk). d.loose b) o_volume ∙ loose_synced (disk VolumeSide s) b;
        store_stable = λ b. ap (λ (d : Disk). d.loose b) o_store ∙ loose_synced (disk StoreSide t) b;
      },
    )

pub said_put : (s : Outside) (d : Disk) → ((put_disk VolumeSide d s).said ≡ s.said) × ((put_disk StoreSide d s).said ≡ s.said)
unfolding put_disk
said_put s d = (refl, refl)

-- ---- the images of a command

found_small : (p : List ℕ) (create : Option ℕ) (s : Outside) → AreSmall s → (made create).count ≤ max_blocks → (found p create s).count ≤ max_blocks
found_small p create s small few = elim ((s.stands (Some p)).there) as (λ b. (if b then s.stands (Some p) else made create).count ≤ max_blocks) [ true ↦ small (Some p) | false ↦ few ]

made_small : (text : Option (List ℕ)) (create : Option ℕ) → IsCreate text create → (made create).count ≤ max_blocks
made_small text None h = omega arith
made_small None (Some blocks) h = absurd h
made_small (Some text) (Some blocks) h = omega (arith, h.most)

pub image_small : (words : List (List ℕ)) (v z p : List ℕ) (create : Option ℕ) (s : Outside) → AreSmall s → IsCommand words v z p create → (found v create s).count ≤ max_blocks
image_small words v z p create s small command = found_small v create s small (made_small _ create command.names.create_is)

pub store_small : (words : List (List ℕ)) (v z p : List ℕ) (create : Option ℕ) (s : Outside) → AreSmall s → IsCommand words v z p create → (found z create s).count ≤ max_blocks
store_small words v z p create s small command = found_small z create s small (made_small _ create command.names.create_is)
