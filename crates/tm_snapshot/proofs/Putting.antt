-- Puts that each make what their key is to have.
use Rattle.std.proofs.Common.{◌≡◌, ◌≢◌, ◌⊎◌, inl, inr, ⊎_elim, ℕ, Bool, true, false, cond, ◌||◌, ◌==◌, Option, Some, List, [], ◌∷◌, refl, sym, ap, ◌∙◌, arith}
use Rattle.std.specs.Ordering.{nat_cmp}
use Rattle.std.specs.BTreeMap.{is_at, insert_entry}
use Rattle.std.specs.List.{AllByRecursion, list_any}
use Rattle.std.proofs.lemmas.Bool.{cases_eq}
use Rattle.std.proofs.lemmas.Bool.Decides.{nat_tests}
use Rattle.tm_records.specs.declared.record.Record.{Record}
use Rattle.tm_records.specs.declared.record.Put.{Put}
use Rattle.tm_records.specs.Records.{Records, at}
use Rattle.tm_records.specs.Puts.{put_record, with_puts}
use Rattle.tm_graph.proofs.Taken.{Sorted}
use Rattle.tm_graph.proofs.Same.{at-put, sorted_put}

-- the records with one put more
abbrev pub after : Put → Records → Records
after p now = insert_entry nat_cmp now p.key (put_record p.body p.meta (at p.key now))

pub sorted_puts : (ps : List Put) (now : Records) → Sorted now → Sorted (with_puts ps now)
sorted_puts [] now s = s
sorted_puts (p ∷ ps) now s = sorted_puts ps (after p now) (sorted_put now p.key (put_record p.body p.meta (at p.key now)) s)

-- whether one of these is put at the key
abbrev pub is_put : ℕ → List Put → Bool
is_put k ps = list_any (λ p. p.key == k) ps

at_after : (p : Put) (now : Records) (k : ℕ) → at k (after p now) ≡ cond (is_at (nat_cmp k) p.key) (Some (put_record p.body p.meta (at p.key now))) (at k now)
at_after p now k = at-put now p.key (put_record p.body p.meta (at p.key now)) k

pub at_own : (p : Put) (now : Records) (k : ℕ) → p.key ≡ k → at k (after p now) ≡ Some (put_record p.body p.meta (at p.key now))
at_own p now k e = let t : is_at (nat_cmp k) p.key ≡ true = grind (arith, nat_tests) in at_after p now k ∙ ap (λ b. cond b (Some (put_record p.body p.meta (at p.key now))) (at k now)) t

pub at_other : (p : Put) (now : Records) (k : ℕ) → p.key ≢ k → at k (after p now) ≡ at k now
at_other p now k ne = let t : is_at (nat_cmp k) p.key ≡ false = grind (arith, nat_tests) in at_after p now k ∙ ap (λ b. cond b (Some (put_record p.body p.meta (at p.key now))) (at k now)) t

module _ (old : Records) (want : ℕ → Option Record) where
  -- the put makes what its key is to have, of what stood there before or of that itself
  pub record Makes (p : Put) : Type 0 where
    pub first : Some (put_record p.body p.meta (at p.key old)) ≡ want p.key
    pub again : Some (put_record p.body p.meta (want p.key)) ≡ want p.key

  -- each key has what it had, or what it is to have
  abbrev Partly : Records → Type 0
  Partly now = (k : ℕ) → (at k now ≡ at k old) ⊎ (at k now ≡ want k)

  wanted : (p : Put) (now : Records) → Makes p → Partly now → Some (put_record p.body p.meta (at p.key now)) ≡ want p.key
  wanted p now makes part = ⊎_elim
      (λ before. ap (λ o. Some (put_record p.body p.meta o)) before ∙ makes.first)
      (λ made. ap (λ o. Some (put_record p.body p.meta o)) made ∙ makes.again)
      (part p.key)

  partly_after : (p : Put) (now : Records) → Makes p → Partly now → Partly (after p now)
  partly_after p now makes part k = ⊎_elim
      (λ (e : p.key ≡ k). inr (at_own p now k e ∙ wanted p now makes part ∙ ap want e))
      (λ (ne : p.key ≢ k). ⊎_elim (λ before. inl (at_other p now k ne ∙ before)) (λ made. inr (at_other p now k ne ∙ made)) (part k))
      (cases_eq p.key k)

  done_after : (p : Put) (now : Records) (k : ℕ) → Makes p → Partly now → at k now ≡ want k → at k (after p now) ≡ want k
  done_after p now k makes part done = ⊎_elim
      (λ (e : p.key ≡ k). at_own p now k e ∙ wanted p now makes part ∙ ap want e)
      (λ (ne : p.key ≢ k). at_other p now k ne ∙ done)
      (cases_eq p.key k)

  all_done : (ps : List Put) (now : Records) (k : ℕ) → AllByRecursion Makes ps → Partly now → (is_put k ps ≡ true) ⊎ (at k now ≡ want k) → at k (with_puts ps now) ≡ want k
  all_done [] now k makes part h = ⊎_elim (λ t. cc t) (λ done. done) h
  all_done (p ∷ ps) now k makes part h = all_done ps (after p now) k makes.1 (partly_after p now makes.0 part) (⊎_elim
      (λ t. ⊎_elim
      (λ (e : p.key ≡ k). inr (at_own p now k e ∙ wanted p now makes.0 part ∙ ap want e))
      (λ (ne : p.key ≢ k). inl (later ne t))
      (cases_eq p.key k))
      (λ done. inr (done_after p now k makes.0 part done)) h)
    where
      later : p.key ≢ k → (p.key == k || is_put k ps) ≡ true → is_put k ps ≡ true
      later ne t = let f : (p.key == k) ≡ false = grind (arith, nat_tests) in sym (ap (λ b. b || is_put k ps) f) ∙ t

  -- puts that make what they are to make, where all other keys have it
  pub puts_make : (ps : List Put) → AllByRecursion Makes ps → ((k : ℕ) → (is_put k ps ≡ true) ⊎ (at k old ≡ want k)) → (k : ℕ) → at k (with_puts ps old) ≡ want k
  puts_make ps makes all k = all_done ps old k makes (λ k. inl refl) (all k)
