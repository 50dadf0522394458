-- The entries of records.
use Rattle.std.proofs.Common.{◌≡◌, ℕ, List, [], ◌∷◌, length, refl}
use Rattle.std.specs.Map.{keys_of}
use Rattle.std.proofs.lemmas.List.FromFn.{length-map-range_with_len}
use Rattle.tm_chain.specs.Blob.{bytes_in, byte_in}
use Rattle.tm_image.specs.Reads.{entry_of, entries_of}
use Rattle.tm_records.specs.declared.record.Record.{Record}
use Rattle.tm_records.specs.Records.{Records}

pub data_length : (bytes : ℕ → List ℕ) (r : Record) → length (entry_of bytes r).bytes ≡ r.length
unfolding bytes_in
data_length bytes r = length-map-range_with_len (byte_in r.blocks bytes) 0 r.length

pub same_keys : (bytes : ℕ → List ℕ) (records : Records) → keys_of (entries_of bytes records) ≡ keys_of records
same_keys bytes [] = refl
same_keys bytes (r ∷ rs) = let rest = same_keys bytes rs in λ i. r.0 ∷ rest i
