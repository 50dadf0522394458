-- What one put makes.
use Rattle.std.proofs.Common.{◌≡◌, ◌∙◌, ◌+◌, ap, sym, subst, refl, ℕ, List, [], ◌∷◌, ◌++◌, reverse, length, take, get_or, ◌<◌, arith, Some, None, Option}
use Rattle.std.specs.Option.{IsSome, option_map, unwrap_or}
use Rattle.std.specs.Ordering.{nat_cmp}
use Rattle.std.specs.BTreeMap.{insert_entry, is_at}
use Rattle.std.specs.Map.{remove_entry}
use Rattle.std.proofs.lemmas.Map.Entries.{sum_by-remove_entry}
use Rattle.tm_records.specs.declared.record.Record.{Record}
use Rattle.tm_records.specs.declared.record.Put.{Put}
use Rattle.tm_records.specs.declared.record.Body.TheVariants.{Kept, Empty, New}
use Rattle.tm_world.specs.declared.bytes.Blob.{Blob}
use Rattle.tm_records.specs.Records.{at, weigh}
use Rattle.std.specs.List.{sum_by}
use Rattle.std.proofs.lemmas.List.{reverse-append, take_more}
use Rattle.std.proofs.lemmas.List.Sums.{sum_by_push}
use Rattle.tm_records.specs.declared.log.Undo.{Undo}
use Rattle.tm_records.specs.Puts.{put_record, with_puts, brought}
use Rattle.tm_records.specs.Removes.{without}
use Rattle.tm_records.specs.Undo.{with_meta, CanUndo, undone, CanUndoAll, all_undone, let_go}
use Rattle.tm_records.proofs.Maps.{meta_entries, stays_there}

pub there : {X : Type 0} (o : Option X) → IsSome o → (x : X) × (o ≡ Some x)
there None h = cc
there (Some x) h = (x, refl)

module _ (p : Put) (es now : List (ℕ × Record)) where
  pub puts_kept : p.body ≡ Kept → (old : Record) → at p.key es ≡ Some old → now ≡ with_meta p.key p.meta (at p.key es) es → now ≡ insert_entry nat_cmp es p.key (put_record p.body p.meta (at p.key es))
  puts_kept kept old was is = meta_entries es p.key old p.meta was now is
      ∙ ap (insert_entry nat_cmp es p.key) (sym (ap (λ b. put_record b p.meta (at p.key es)) kept ∙ ap (put_record Kept p.meta) was))

  pub puts_empty : p.body ≡ Empty → now ≡ insert_entry nat_cmp es p.key (record { meta = p.meta; length = 0; blocks = [] }) → now ≡ insert_entry nat_cmp es p.key (put_record p.body p.meta (at p.key es))
  puts_empty empty is = is ∙ ap (insert_entry nat_cmp es p.key) (sym (ap (λ b. put_record b p.meta (at p.key es)) empty))

  pub puts_new : (blob : Blob) → p.body ≡ New blob → now ≡ insert_entry nat_cmp es p.key (record { meta = p.meta; length = blob.length; blocks = blob.blocks }) → now ≡ insert_entry nat_cmp es p.key (put_record p.body p.meta (at p.key es))
  puts_new blob new is = is ∙ ap (insert_entry nat_cmp es p.key) (sym (ap (λ b. put_record b p.meta (at p.key es)) new))

-- one put more
pub with_puts-push : (ps : List Put) (p : Put) (es : List (ℕ × Record)) → with_puts (ps ++ p ∷ []) es ≡ insert_entry nat_cmp (with_puts ps es) p.key (put_record p.body p.meta (at p.key (with_puts ps es)))
with_puts-push [] p es = refl
with_puts-push (q ∷ ps) p es = with_puts-push ps p (insert_entry nat_cmp es q.key (put_record q.body q.meta (at q.key es)))

pub with_puts_more : (ps : List Put) (p : Put) (es mid new : List (ℕ × Record)) → mid ≡ with_puts ps es → new ≡ insert_entry nat_cmp mid p.key (put_record p.body p.meta (at p.key mid)) → new ≡ with_puts (ps ++ p ∷ []) es
with_puts_more ps p es mid new so_far is = is ∙ ap (λ ms. insert_entry nat_cmp ms p.key (put_record p.body p.meta (at p.key ms))) so_far ∙ sym (with_puts-push ps p es)

newest_first : (us : List Undo) (u : Undo) → reverse (us ++ u ∷ []) ≡ u ∷ reverse us
newest_first us u = reverse-append us (u ∷ [])

module _ (us log : List Undo) (u : Undo) (mid new : List (ℕ × Record)) (pushed : log ≡ us ++ u ∷ []) (can : CanUndo u new) (back : undone u new ≡ mid) where
  pub can_undo_push : CanUndoAll (reverse us) mid → CanUndoAll (reverse log) new
  can_undo_push h = subst (λ vs. CanUndoAll vs new) (sym (ap reverse pushed ∙ newest_first us u)) (can, subst (CanUndoAll (reverse us)) (sym back) h)

  pub all_undone_push : all_undone (reverse log) new ≡ all_undone (reverse us) mid
  all_undone_push = ap (λ vs. all_undone vs new) (ap reverse pushed ∙ newest_first us u) ∙ ap (all_undone (reverse us)) back

-- the blocks that one step moves
pub balance_push : (us log : List Undo) (u : Undo) (ps : List Put) (p : Put) (old mid new : List (ℕ × Record)) (w : ℕ → ℕ) → log ≡ us ++ u ∷ []
    → weigh w mid + sum_by (λ (v : Undo). sum_by w (let_go v)) us ≡ weigh w old + sum_by (λ (q : Put). sum_by w (brought q.body)) ps
    → weigh w new + sum_by w (let_go u) ≡ weigh w mid + sum_by w (brought p.body)
    → weigh w new + sum_by (λ (v : Undo). sum_by w (let_go v)) log ≡ weigh w old + sum_by (λ (q : Put). sum_by w (brought q.body)) (ps ++ p ∷ [])
balance_push us log u ps p old mid new w pushed so_far step =
    let f : Undo → ℕ = λ v. sum_by w (let_go v) in
    let g : Put → ℕ = λ q. sum_by w (brought q.body) in
    omega (arith, so_far, step, ap (sum_by f) pushed, sum_by_push f us u, sum_by_push g ps p)

pub stays_put : (es now : List (ℕ × Record)) (j : ℕ) (v : Record) → now ≡ insert_entry nat_cmp es j v → (k : ℕ) → IsSome (at k es) → IsSome (at k now)
stays_put es now j v is k h = subst (λ fs. IsSome (at k fs)) (sym is) (stays_there es j v k h)

-- what a removal lets go
pub balance_remove : (es now : List (ℕ × Record)) (k : ℕ) (o : Option Record) → o ≡ at k es → now ≡ remove_entry (is_at (nat_cmp k)) es → (w : ℕ → ℕ) → weigh w now + unwrap_or (option_map (λ (r : Record). sum_by w r.blocks) o) 0 ≡ weigh w es
balance_remove es now k o was is w =
    let f : Record → ℕ = λ r. sum_by w r.blocks in
    omega (arith, sum_by-remove_entry f (is_at (nat_cmp k)) es, ap (weigh w) is, ap (λ q. unwrap_or (option_map f q) 0) was)

without_push : (ks : List ℕ) (k : ℕ) (es : List (ℕ × Record)) → without (ks ++ k ∷ []) es ≡ remove_entry (is_at (nat_cmp k)) (without ks es)
without_push [] k es = refl
without_push (x ∷ ks) k es = without_push ks k (remove_entry (is_at (nat_cmp x)) es)

pub without_more : (ks : List ℕ) (i : ℕ) (es : List (ℕ × Record)) → i < length ks → without (take (i + 1) ks) es ≡ remove_entry (is_at (nat_cmp (get_or ks i 0))) (without (take i ks) es)
without_more ks i es lt = ap (λ xs. without xs es) (take_more ks i 0 lt) ∙ without_push (take i ks) (get_or ks i 0) es
