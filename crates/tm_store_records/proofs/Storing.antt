-- What is in memory is what the records on the disk stand for.
use Rattle.std.proofs.Common.{◌≡◌, ℕ, List, [], ◌∷◌, length, map, Option, Some, None, refl, sym, ap, ◌∙◌, subst}
use Rattle.std.specs.Option.{option_map, unwrap_or}
use Rattle.std.proofs.lemmas.List.FromFn.{length-map-range_with_len}
use Rattle.tm_chain.specs.Blob.{bytes_in, byte_in}
use Rattle.tm_records.specs.declared.record.Record.{Record}
use Rattle.tm_records.specs.Records.{Records, at}
use Rattle.tm_image.specs.Reads.{Entry, entry_of, entries_of}
use Rattle.tm_graph.proofs.Same.{at-mapped}
use Rattle.tm_store_records.specs.Heads.{RecordHeads, heads_in, heads_of}
use Rattle.tm_store_records.specs.Found.{node_key, machine_in, snapshots_in, nodes_in}
use Rattle.tm_store_records.specs.Rules.{IsGoodStore}
use Rattle.tm_store_records.specs.States.{files_in, snapshot_on, StoreIs}
use Rattle.tm_store_records.specs.Held.{Held, IsWhole, files_of, store_on}

pub length-bytes_in : (r : Record) (bytes : ℕ → List ℕ) → length (bytes_in r.blocks bytes 0 r.length) ≡ r.length
unfolding bytes_in
length-bytes_in r bytes = length-map-range_with_len (byte_in r.blocks bytes) 0 r.length

pub heads_are : (records : Records) (bytes : ℕ → List ℕ) → heads_in (entries_of bytes records) ≡ heads_of records
heads_are [] bytes = refl
heads_are (e ∷ es) bytes =
    let rest = heads_are es bytes in
    let size = length-bytes_in e.1 bytes in
    λ i. (e.0, record { meta = e.1.meta; size = size i }) ∷ rest i

file_is : (records : Records) (bytes : ℕ → List ℕ) (n : ℕ) → files_in (entries_of bytes records) n ≡ files_of records bytes n
file_is records bytes n = ap (λ (o : Option Entry). unwrap_or (option_map (λ e. e.bytes) o) []) (at-mapped (λ k r. entry_of bytes r) records (node_key n)) ∙ by_record (at (node_key n) records)
  where
    by_record : (o : Option Record) → unwrap_or (option_map (λ e. e.bytes) (option_map (entry_of bytes) o)) [] ≡ unwrap_or (option_map (λ r. bytes_in r.blocks bytes 0 r.length) o) []
    by_record None = refl
    by_record (Some r) = refl

pub files_are : (records : Records) (bytes : ℕ → List ℕ) → files_in (entries_of bytes records) ≡ files_of records bytes
files_are records bytes = λ i n. file_is records bytes n i

module _ (h : Held) (bytes : ℕ → List ℕ) (whole : IsWhole h) where
  heads_same : heads_of h.image.records ≡ heads_in (entries_of bytes h.image.records)
  heads_same = sym (heads_are h.image.records bytes)

  -- the store on this disk is what its entries are
  pub store_is : StoreIs (entries_of bytes h.image.records) (store_on h bytes)
  store_is = record {
    good = subst (λ (heads : RecordHeads). IsGoodStore heads h.number) heads_same whole.good;
    machine = subst (λ (heads : RecordHeads). machine_in heads ≡ Some h.machine) heads_same whole.machine_is;
    snapshots =
        ap (λ (files : ℕ → List ℕ). map (snapshot_on files h.nodes) h.snapshots) (sym (files_are h.image.records bytes))
        ∙ (λ i. map (snapshot_on (files_in (entries_of bytes h.image.records)) (whole.nodes_are i)) (whole.snapshots_are i))
        ∙ ap (λ (heads : RecordHeads). map (snapshot_on (files_in (entries_of bytes h.image.records)) (nodes_in heads)) (snapshots_in heads)) heads_same;
  }
