-- What a stop leaves of an image is what it leaves of a store.
use Rattle.std.proofs.Common.{◌≡◌, ⊎_elim, inl, inr, ℕ, List, subst}
use Rattle.tm_world.specs.Disk.{Disk, Image}
use Rattle.tm_world.specs.declared.world.Side.{Side}
use Rattle.tm_world.specs.declared.world.Side.TheVariants.{Store}
use Rattle.tm_image.specs.Reads.{Entries, ReadsAsTable, LeavesRead, LeavesOneOf}
use Rattle.tm_store_records.specs.Tags.{tag_of, FitsTag}
use Rattle.tm_store_records.specs.States.{StoredStore, StoreIs, StoreReads, LeavesStore, LeavesOneStore}

pub reads_store : (image : Image) (entries : Entries) (tag : List ℕ) (s : StoredStore) → ReadsAsTable Store entries tag image → tag ≡ tag_of s.running s.store.number → FitsTag s.running s.store.number → StoreIs entries s.store → StoreReads image s
reads_store image entries tag s reads is fits store = record { entries = entries; reads = subst (λ t. ReadsAsTable Store entries t image) is reads; fits = fits; is = store }

pub leaves_store : (old new : Entries) (old_tag new_tag : List ℕ) (s t : StoredStore)
    → old_tag ≡ tag_of s.running s.store.number → FitsTag s.running s.store.number → StoreIs old s.store
    → new_tag ≡ tag_of t.running t.store.number → FitsTag t.running t.store.number → StoreIs new t.store
    → (side : Side) → side ≡ Store → (d : Disk) → LeavesOneOf side old old_tag new new_tag d → LeavesStore s t d
leaves_store old new old_tag new_tag s t s_tag s_fits s_is t_tag t_fits t_is side store d leaves image left = ⊎_elim
    (λ (reads : ReadsAsTable side old old_tag image). inl (reads_store image old old_tag s (subst (λ x. ReadsAsTable x old old_tag image) store reads) s_tag s_fits s_is))
    (λ (reads : ReadsAsTable side new new_tag image). inr (reads_store image new new_tag t (subst (λ x. ReadsAsTable x new new_tag image) store reads) t_tag t_fits t_is))
    (leaves image left)

pub leaves_one_store : (entries : Entries) (tag : List ℕ) (s : StoredStore) → tag ≡ tag_of s.running s.store.number → FitsTag s.running s.store.number → StoreIs entries s.store
    → (side : Side) → side ≡ Store → (d : Disk) → LeavesRead side entries tag d → LeavesOneStore s d
leaves_one_store entries tag s s_tag fits is side store d leaves image left = reads_store image entries tag s (subst (λ x. ReadsAsTable x entries tag image) store (leaves image left)) s_tag fits is
