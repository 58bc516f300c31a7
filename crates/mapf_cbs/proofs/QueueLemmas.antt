-- The open list as queues: one for each sum.
use Rattle.std.proofs.Common.{◌≡◌, ℕ, ◌<◌, Bool, true, false, cond, suc, List, [], ◌∷◌, ◌++◌, map, length, length-append, get_or, drop, slice_get, Some, None, IfSome, All, AllPairs, Contains, refl, sym, ap, subst, ◌∙◌, arith}
use Rattle.std.specs.declared.cmp.Ordering.{Ordering}
use Rattle.std.specs.declared.cmp.Ordering.TheVariants.{Less, Equal, Greater}
use Rattle.std.specs.declared.collections.VecDeque.{VecDeque}
use Rattle.std.specs.Ordering.{nat_cmp, match_ordering, is_eq}
use Rattle.std.specs.List.{AllByRecursion}
use Rattle.std.specs.List.Sorted.{IsStrictlySortedBy}
use Rattle.std.specs.Map.{keys_of, values_of, lookup, set_value, remove_entry}
use Rattle.std.specs.BTreeMap.{insert_entry, is_at}
use Rattle.std.specs.BTreeSet.{insert_key}
use Rattle.std.proofs.lemmas.Cmp.{ranked, nat_cmp_total, tied_itself}
use Rattle.std.proofs.lemmas.List.{map-append, append_assoc, length-map, nil_from_length}
use Rattle.std.proofs.Math.ListN.{get_or-map}
use Rattle.std.proofs.lemmas.List.Elements.{All-append, All-contains, All-contains_itself, All-head, All-map, All-nil, All-tail, All-weaker, Contains-append_left}
use Rattle.std.proofs.lemmas.List.Quantifiers.{all_pairs_push}
use Rattle.std.proofs.lemmas.Map.Views.{IfSome-lookup_from_All}
use Rattle.std.specs.Option.{unwrap_or}
use Rattle.mapf_cbs.specs.Queues.{IsOpenQueue, keys_of_entry, keys_of_entries}
use Rattle.mapf_cbs.specs.State.{IsLeastKey, key_cmp}
use Rattle.mapf_model.proofs.PlaceLemmas.{All-later}
use Rattle.mapf_cbs.proofs.OpenLemmas.{less_key, greater_key}

-- what holds of each item holds of each of the earlier ones
all_left : {X : Type 0} (P : X → Type 0) (xs ys : List X) → All P (xs ++ ys) → All P xs
all_left P xs ys all = All-weaker (Contains xs) P (λ x h. All-contains P (xs ++ ys) x all (Contains-append_left xs ys x h)) xs (All-contains_itself xs)

-- where a key goes

insert_after : (ks more : List (ℕ × ℕ)) (k : ℕ × ℕ) → All (λ x. key_cmp k x ≡ Greater) ks → insert_key key_cmp (ks ++ more) k ≡ ks ++ insert_key key_cmp more k
insert_after [] more k all = refl
insert_after (x ∷ ks) more k all =
    let head = All-head (λ x. key_cmp k x ≡ Greater) x ks all in
    let tail = All-tail (λ x. key_cmp k x ≡ Greater) x ks all in
    ap (λ r. match_ordering r (k ∷ x ∷ (ks ++ more)) (x ∷ (ks ++ more)) (x ∷ insert_key key_cmp (ks ++ more) k)) head ∙ ap (λ l. x ∷ l) (insert_after ks more k tail)

insert_before : (ks : List (ℕ × ℕ)) (k : ℕ × ℕ) → All (λ x. key_cmp k x ≡ Less) ks → insert_key key_cmp ks k ≡ k ∷ ks
insert_before [] k all = refl
insert_before (x ∷ ks) k all = ap (λ r. match_ordering r (k ∷ x ∷ ks) (x ∷ ks) (x ∷ insert_key key_cmp ks k)) (All-head (λ x. key_cmp k x ≡ Less) x ks all)

module _ {Z : Type 0} where
  -- sums above another
  AreAbove : ℕ → List (ℕ × VecDeque ℕ Z) → Type 0
  AreAbove total es = AllByRecursion (λ t. nat_cmp total t ≡ Less) (keys_of es)

  above_more : (s t : ℕ) (es : List (ℕ × VecDeque ℕ Z)) → nat_cmp s t ≡ Less → AreAbove t es → AreAbove s es
  unfolding AreAbove
  above_more s t [] less above = tt
  above_more s t (e ∷ es) less above = (nat_cmp_total.trans s t e.0 less above.0, above_more s t es less above.1)

  -- a key is less than those of greater sums
  less_than_entries : (total number : ℕ) (es : List (ℕ × VecDeque ℕ Z)) → AreAbove total es → All (λ x. key_cmp (total, number) x ≡ Less) (keys_of_entries es)
  unfolding AreAbove
  less_than_entries total number [] above = All-nil (λ x. key_cmp (total, number) x ≡ Less)
  less_than_entries total number (e ∷ es) above =
      let P : ℕ × ℕ → Type 0 = λ x. key_cmp (total, number) x ≡ Less in
      let less = ranked total e.0 Less (sym above.0) in
      All-append P (keys_of_entry e) (keys_of_entries es)
      (All-map P (λ m. (e.0, m)) e.1.items (λ k d inside. less_key (total, number) (e.0, get_or e.1.items k d) (omega (arith, less)) (λ same. absurd (omega (arith, less, same)))))
      (less_than_entries total number es above.1)

  -- no queue has a sum that is below all
  absent_below : (total : ℕ) (es : List (ℕ × VecDeque ℕ Z)) → AreAbove total es → lookup (is_at (nat_cmp total)) es ≡ None
  unfolding AreAbove
  absent_below total [] above = refl
  absent_below total (e ∷ es) above = ap (λ r. cond (is_eq r) (Some e.1) (lookup (is_at (nat_cmp total)) es)) above.0 ∙ absent_below total es above.1

  -- a key is greater than those of a lesser sum
  greater_than_entry : (total number : ℕ) (e : ℕ × VecDeque ℕ Z) → nat_cmp total e.0 ≡ Greater → All (λ x. key_cmp (total, number) x ≡ Greater) (keys_of_entry e)
  greater_than_entry total number e greater =
      let less = ranked total e.0 Greater (sym greater) in
      All-map (λ x. key_cmp (total, number) x ≡ Greater) (λ m. (e.0, m)) e.1.items (λ k d inside. greater_key (total, number) (e.0, get_or e.1.items k d) (omega (arith, less)) (λ same. absurd (omega (arith, less, same))))

  numbers_below : (number : ℕ) (e : ℕ × VecDeque ℕ Z) → All (λ key. key.1 < number) (keys_of_entry e) → All (λ m. m < number) e.1.items
  numbers_below number e newest k d inside =
      let key : ℕ → ℕ × ℕ = λ m. (e.0, m) in
      let long : length (map key e.1.items) ≡ length e.1.items = length-map e.1.items key in
      let at : (get_or (map key e.1.items) k (key d)).1 < number = newest k (key d) (omega (arith, long)) in
      subst (λ (x : ℕ × ℕ). x.1 < number) (get_or-map key e.1.items k d) at

  -- a number that is added at the end of the queue of its sum is inserted in its place
  pub added_to_queue : (es : List (ℕ × VecDeque ℕ Z)) (total number : ℕ) (old new : VecDeque ℕ Z) → IsStrictlySortedBy nat_cmp (keys_of es) → lookup (is_at (nat_cmp total)) es ≡ Some old → new.items ≡ old.items ++ number ∷ [] → All (λ key. key.1 < number) (keys_of_entries es)
      → keys_of_entries (set_value (is_at (nat_cmp total)) es new) ≡ insert_key key_cmp (keys_of_entries es) (total, number)
  unfolding AreAbove IsStrictlySortedBy
  added_to_queue [] total number old new sorted found is newest = absurd cc
  added_to_queue (e ∷ es) total number old new sorted found is newest =
      by (nat_cmp total e.0) refl found (λ f. added_to_queue es total number old new sorted.1 f is (All-later (λ key. key.1 < number) (keys_of_entry e) (keys_of_entries es) newest))
    where
      test : ℕ → Bool
      test = is_at (nat_cmp total)

      by : (r : Ordering) → nat_cmp total e.0 ≡ r → cond (is_eq r) (Some e.1) (lookup test es) ≡ Some old → (lookup test es ≡ Some old → keys_of_entries (set_value test es new) ≡ insert_key key_cmp (keys_of_entries es) (total, number))
          → keys_of_entries (cond (is_eq r) ((e.0, new) ∷ es) (e ∷ set_value test es new)) ≡ insert_key key_cmp (keys_of_entry e ++ keys_of_entries es) (total, number)
      by Less r f later = absurd (let none = absent_below total es (above_more total e.0 es r sorted.0) in cc)
      by Equal r f later =
          let same : total ≡ e.0 = ranked total e.0 Equal (sym r) in
          let queue : e.1 ≡ old = ap (λ o. unwrap_or o e.1) f in
          let items : new.items ≡ e.1.items ++ number ∷ [] = is ∙ ap (λ (q : VecDeque ℕ Z). q.items ++ number ∷ []) (sym queue) in
          let below = numbers_below number e (all_left (λ key. key.1 < number) (keys_of_entry e) (keys_of_entries es) newest) in
          let past : All (λ x. key_cmp (e.0, number) x ≡ Greater) (keys_of_entry e) =
          All-map (λ x. key_cmp (e.0, number) x ≡ Greater) (λ m. (e.0, m)) e.1.items (λ k d inside. greater_key (e.0, number) (e.0, get_or e.1.items k d) (omega arith) (λ _. below k d inside)) in
          let before = insert_before (keys_of_entries es) (e.0, number) (less_than_entries e.0 number es sorted.0) in
          let left : keys_of_entries ((e.0, new) ∷ es) ≡ keys_of_entry e ++ ((e.0, number) ∷ keys_of_entries es) =
          ap (λ l. map (λ m. (e.0, m)) l ++ keys_of_entries es) items ∙ ap (λ l. l ++ keys_of_entries es) (map-append (λ (m : ℕ). (e.0, m)) e.1.items (number ∷ [])) ∙ append_assoc (keys_of_entry e) ((e.0, number) ∷ []) (keys_of_entries es) in
          left ∙ sym (insert_after (keys_of_entry e) (keys_of_entries es) (e.0, number) past ∙ ap (λ l. keys_of_entry e ++ l) before) ∙ ap (λ t. insert_key key_cmp (keys_of_entry e ++ keys_of_entries es) (t, number)) (sym same)
      by Greater r f later = ap (λ l. keys_of_entry e ++ l) (later f) ∙ sym (insert_after (keys_of_entry e) (keys_of_entries es) (total, number) (greater_than_entry total number e r))

  -- a queue whose numbers stay has the same keys
  pub same_keys : (es : List (ℕ × VecDeque ℕ Z)) (test : ℕ → Bool) (old new : VecDeque ℕ Z) → lookup test es ≡ Some old → new.items ≡ old.items → keys_of_entries (set_value test es new) ≡ keys_of_entries es
  same_keys [] test old new found same = refl
  same_keys (e ∷ es) test old new found same = by (test e.0) found (λ f. same_keys es test old new f same)
    where
      by : (b : Bool) → cond b (Some e.1) (lookup test es) ≡ Some old → (lookup test es ≡ Some old → keys_of_entries (set_value test es new) ≡ keys_of_entries es)
          → keys_of_entries (cond b ((e.0, new) ∷ es) (e ∷ set_value test es new)) ≡ keys_of_entries (e ∷ es)
      by true f later =
          let here : old.items ≡ e.1.items = sym (ap (λ o. (unwrap_or o e.1).items) f) in
          ap (λ l. map (λ m. (e.0, m)) l ++ keys_of_entries es) (same ∙ here)
      by false f later = ap (λ l. keys_of_entry e ++ l) (later f)

  -- the number of a new queue is inserted in its place
  pub added_queue : (es : List (ℕ × VecDeque ℕ Z)) (total number : ℕ) (new : VecDeque ℕ Z) → IsStrictlySortedBy nat_cmp (keys_of es) → lookup (is_at (nat_cmp total)) es ≡ None → new.items ≡ number ∷ []
      → keys_of_entries (insert_entry nat_cmp es total new) ≡ insert_key key_cmp (keys_of_entries es) (total, number)
  unfolding AreAbove IsStrictlySortedBy
  added_queue [] total number new sorted absent is = ap (λ l. map (λ m. (total, m)) l ++ []) is
  added_queue (e ∷ es) total number new sorted absent is = by (nat_cmp total e.0) refl absent (λ f. added_queue es total number new sorted.1 f is)
    where
      test : ℕ → Bool
      test = is_at (nat_cmp total)

      by : (r : Ordering) → nat_cmp total e.0 ≡ r → cond (is_eq r) (Some e.1) (lookup test es) ≡ None → (lookup test es ≡ None → keys_of_entries (insert_entry nat_cmp es total new) ≡ insert_key key_cmp (keys_of_entries es) (total, number))
          → keys_of_entries (match_ordering r ((total, new) ∷ e ∷ es) ((e.0, new) ∷ es) (e ∷ insert_entry nat_cmp es total new)) ≡ insert_key key_cmp (keys_of_entry e ++ keys_of_entries es) (total, number)
      by Less r f later = ap (λ l. map (λ m. (total, m)) l ++ keys_of_entries (e ∷ es)) is ∙ sym (insert_before (keys_of_entries (e ∷ es)) (total, number) (less_than_entries total number (e ∷ es) (r, above_more total e.0 es r sorted.0)))
      by Equal r f later = absurd cc
      by Greater r f later = ap (λ l. keys_of_entry e ++ l) (later f) ∙ sym (insert_after (keys_of_entry e) (keys_of_entries es) (total, number) (greater_than_entry total number e r))

  -- the numbers of a queue that a look-up finds are below each number that all are below
  pub found_below : (es : List (ℕ × VecDeque ℕ Z)) (test : ℕ → Bool) (number : ℕ) (old : VecDeque ℕ Z) → lookup test es ≡ Some old → All (λ key. key.1 < number) (keys_of_entries es) → All (λ m. m < number) old.items
  found_below [] test number old found newest = absurd cc
  found_below (e ∷ es) test number old found newest = by (test e.0) found (λ f. found_below es test number old f (All-later (λ key. key.1 < number) (keys_of_entry e) (keys_of_entries es) newest))
    where
      by : (b : Bool) → cond b (Some e.1) (lookup test es) ≡ Some old → (lookup test es ≡ Some old → All (λ m. m < number) old.items) → All (λ m. m < number) old.items
      by true f later = subst (λ (q : VecDeque ℕ Z). All (λ m. m < number) q.items) (ap (λ o. unwrap_or o e.1) f) (numbers_below number e (all_left (λ key. key.1 < number) (keys_of_entry e) (keys_of_entries es) newest))
      by false f later = later f

  -- what a look-up finds is a queue
  pub found_queue : (es : List (ℕ × VecDeque ℕ Z)) (total : ℕ) (old : VecDeque ℕ Z) → All IsOpenQueue (values_of es) → Some old ≡ lookup (is_at (nat_cmp total)) es → IsOpenQueue old
  found_queue es total old queues found = subst (λ o. IfSome o IsOpenQueue) (sym found) (IfSome-lookup_from_All IsOpenQueue (is_at (nat_cmp total)) es queues)

  pub queue_of_one : (new : VecDeque ℕ Z) (number : ℕ) → new.items ≡ number ∷ [] → IsOpenQueue new
  queue_of_one new number is = record {
    nonempty = omega (arith, ap length is);
    rising = λ i j d before inside. absurd (omega (arith, ap length is));
  }

  pub queue_pushed : (old new : VecDeque ℕ Z) (number : ℕ) → IsOpenQueue old → All (λ m. m < number) old.items → new.items ≡ old.items ++ number ∷ [] → IsOpenQueue new
  queue_pushed old new number queue below is = record {
    nonempty = omega (arith, ap length is, length-append old.items (number ∷ []));
    rising = subst (AllPairs ◌<◌) (sym is) (all_pairs_push ◌<◌ old.items number queue.rising below);
  }

  pub queue_kept : (old new : VecDeque ℕ Z) → IsOpenQueue old → new.items ≡ old.items → IsOpenQueue new
  queue_kept old new queue is = record {
    nonempty = omega (arith, ap length is, queue.nonempty);
    rising = subst (AllPairs ◌<◌) (sym is) queue.rising;
  }

  pub queue_popped : (old new : VecDeque ℕ Z) (number : ℕ) → IsOpenQueue old → old.items ≡ number ∷ new.items → 0 < length new.items → IsOpenQueue new
  queue_popped old new number queue is some = record {
    nonempty = some;
    rising = λ i j d before inside. subst (AllPairs ◌<◌) is queue.rising (suc i) (suc j) d (omega arith) (omega arith);
  }

  above_of : (e : ℕ × VecDeque ℕ Z) (es : List (ℕ × VecDeque ℕ Z)) → IsStrictlySortedBy nat_cmp (keys_of (e ∷ es)) → AreAbove e.0 es
  unfolding AreAbove IsStrictlySortedBy
  above_of e es sorted = sorted.0

  -- the first number of the first queue is taken
  pub taken_first : (es : List (ℕ × VecDeque ℕ Z)) (total number : ℕ) (old new : VecDeque ℕ Z) → IsStrictlySortedBy nat_cmp (keys_of es) → slice_get (keys_of es) 0 ≡ Some total → Some old ≡ lookup (is_at (nat_cmp total)) es → All IsOpenQueue (values_of es) → old.items ≡ number ∷ new.items
      → (set_value (is_at (nat_cmp total)) es new ≡ (total, new) ∷ drop 1 es) × IsLeastKey (total, number) (keys_of_entries es) (keys_of_entries ((total, new) ∷ drop 1 es))
  unfolding IsStrictlySortedBy
  taken_first [] total number old new sorted at found queues is = absurd cc
  taken_first (e ∷ es) total number old new sorted at found queues is =
      let queue = found_queue (e ∷ es) total old queues found in
      let same : e.0 ≡ total = ap (λ o. unwrap_or o e.0) at in
      let equal : nat_cmp total e.0 ≡ Equal = ap (nat_cmp total) same ∙ tied_itself nat_cmp_total total in
      let here : e.1 ≡ old = ap (λ o. unwrap_or o e.1) (sym (ap (λ r. cond (is_eq r) (Some e.1) (lookup (is_at (nat_cmp total)) es)) equal) ∙ sym found) in
      let items : e.1.items ≡ number ∷ new.items = ap (λ (q : VecDeque ℕ Z). q.items) here ∙ is in
      let set : set_value (is_at (nat_cmp total)) (e ∷ es) new ≡ (total, new) ∷ es = ap (λ r. cond (is_eq r) ((e.0, new) ∷ es) (e ∷ set_value (is_at (nat_cmp total)) es new)) equal ∙ ap (λ t. (t, new) ∷ es) same in
      let P : ℕ × ℕ → Type 0 = λ x. key_cmp (total, number) x ≡ Less in
      let rising : AllPairs ◌<◌ (number ∷ new.items) = subst (AllPairs ◌<◌) is queue.rising in
      let mine : All P (map (λ m. (total, m)) new.items) =
      All-map P (λ m. (total, m)) new.items (λ k d inside. less_key (total, number) (total, get_or new.items k d) (omega arith) (λ _. rising 0 (suc k) d (omega arith) (omega arith))) in
      let others : All P (keys_of_entries es) = less_than_entries total number es (subst (λ t. AreAbove t es) same (above_of e es sorted)) in (
        set,
        record {
          removal = ap (λ l. map (λ m. (e.0, m)) l ++ keys_of_entries es) items ∙ ap (λ t. map (λ m. (t, m)) (number ∷ new.items) ++ keys_of_entries es) same;
          above = λ x h. All-contains P (keys_of_entries ((total, new) ∷ es)) x (All-append P (map (λ m. (total, m)) new.items) (keys_of_entries es) mine others) h;
        },
      )

  pub later_queues : (es : List (ℕ × VecDeque ℕ Z)) → All IsOpenQueue (values_of es) → All IsOpenQueue (values_of (drop 1 es))
  later_queues [] queues = queues
  later_queues (e ∷ es) queues = All-tail IsOpenQueue e.1 (values_of es) queues

  -- if its queue is empty then, the entry is removed, and the keys stay
  pub removed_first : (es set left : List (ℕ × VecDeque ℕ Z)) (total : ℕ) (new : VecDeque ℕ Z) → set ≡ (total, new) ∷ drop 1 es → left ≡ remove_entry (is_at (nat_cmp total)) set → length new.items ≡ 0
      → (left ≡ drop 1 es) × (keys_of_entries ((total, new) ∷ drop 1 es) ≡ keys_of_entries left)
  removed_first es set left total new is removed empty =
      let test : ℕ → Bool = is_at (nat_cmp total) in
      let gone : left ≡ drop 1 es = removed ∙ ap (remove_entry test) is ∙ ap (λ r. cond (is_eq r) (drop 1 es) ((total, new) ∷ remove_entry test (drop 1 es))) (tied_itself nat_cmp_total total) in
      (gone, ap (λ l. map (λ m. (total, m)) l ++ keys_of_entries (drop 1 es)) (nil_from_length new.items empty) ∙ ap keys_of_entries (sym gone))
