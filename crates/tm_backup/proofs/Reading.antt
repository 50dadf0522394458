-- The bytes of files.
use Rattle.std.proofs.Common.{◌≡◌, ℕ, List, ◌++◌, length, take, drop, IfSome, sym, ap, ◌∙◌, arith, Some, None, Option}
use Rattle.std.proofs.lemmas.List.{take-append-le, take_all}
use Rattle.tm_tree.specs.declared.item.Item.{Item}
use Rattle.tm_tree.specs.Items.{bytes_of}
use Rattle.tm_backup.specs.EntryPlans.{IsFileOf}

-- a part from the front that is as long as a file is the file's bytes
pub whole_read : (o : Option Item) (size old len : ℕ) (read into items : List ℕ) → IsFileOf size o → old ≡ size → len ≡ size → length into ≡ size
    → read ≡ take len (into ++ drop (length into) items) → IfSome o (λ e. into ≡ take old (bytes_of e)) → IfSome o (λ e. read ≡ bytes_of e)
whole_read None size old len read into items file a b l is h = tt
whole_read (Some e) size old len read into items file a b l is h =
    let same : file.0 ≡ e = cc file.1 in
    let long : length (bytes_of e) ≡ size = ap (λ (x : Item). length (bytes_of x)) (sym same) ∙ file.3 in
    is ∙ take-append-le len into (drop (length into) items) (omega (arith, b, l)) ∙ take_all len into (omega (arith, b, l)) ∙ h ∙ take_all old (bytes_of e) (omega (arith, a, long))
