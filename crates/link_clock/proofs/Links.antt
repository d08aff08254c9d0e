-- Links of a list of takes, with one more entry, and what their predecessors tell of pasts.
use Rattle.std.proofs.Common.{◌≡◌, ℕ, zero, suc, ◌+◌, ◌-◌, ◌<◌, ◌≤◌, Bool, true, cond, ◌||◌, eqb, ltb, List, [], ◌∷◌, ◌++◌, length, get_or, replicate, Some, None, Option, sym, refl, ap, ◌∙◌, ap₂, inl, inr, add-one, arith, below_more, length-append}
use mathlib.Core.Bool.{Bool-set}
use mathlib.Core.Logic.{∥∥₁_elim, ∥∥₁_prop}
use Rattle.std.specs.Option.{option_to_list}
use Rattle.std.specs.List.{AllByRecursion}
use Rattle.std.proofs.ByRecursion.{All-append}
use Rattle.std.proofs.Math.Seq.{get_or-append_seam}
use Rattle.std.proofs.lemmas.List.{get_or_append_left, get_or-replicate}
use Rattle.std.proofs.lemmas.Bool.{cases_Bool, cases_eq, and_parts, and_from, lt-ltb, ltb-true}
use Rattle.causality.specs.Entries.{Entry, at_either, latest, predecessors, in_some, past}
use Rattle.causality.proofs.Pasts.{past-tail, past_head}
use Rattle.causality.specs.Limits.{max_nodes, is_node}
use Rattle.clock.specs.Meaning.{if_given, asked}
use Rattle.clock.specs.Takes.{entries_of}
use Rattle.clock.proofs.Arrays.{length-listed, listed_like, node_bounds, given_up, Admitted}
use Rattle.clock.proofs.Takes.{length-entries, latest-low}
use Rattle.link_clock.specs.declared.Link.{Link}
use Rattle.link_clock.specs.Links.{no_link, entry_of, takes_of, all_takes, before, earlier, Keeps, Kept, latest_of, Noted}

pub length_takes : (links : List Link) (k : ℕ) → length (takes_of links k) ≡ k
length_takes links k = length-listed (λ e. entry_of (get_or links e no_link)) k

pub length_held : (links : List Link) (k : ℕ) → length (entries_of (takes_of links k)) ≡ k
length_held links k = length-entries (takes_of links k) ∙ length_takes links k

-- ---- predecessors

pub earlier_up : (z k : ℕ) (l : Link) → z ≤ k → earlier z l ≡ true → earlier k l ≡ true
earlier_up z k l h low =
    let up : (o : Option ℕ) → if_given (λ x. ltb x z) o ≡ true → if_given (λ x. ltb x k) o ≡ true = given_up _ _ (λ x g. lt-ltb x k (omega (arith, ltb-true x z g))) in
    let (p, q) = and_parts (if_given (λ x. ltb x z) l.before.own) _ low in
    let (r, s) = and_parts (if_given (λ x. ltb x z) l.before.other) _ q in
    and_from _ _ (up l.before.own p) (and_from _ _ (up l.before.other r) (up l.entry.prior s))

pub earlier-all : (z : ℕ) (l : Link) → earlier z l ≡ true → AllByRecursion (λ x. x < z) (before l)
earlier-all z l low =
    let (p, q) = and_parts (if_given (λ x. ltb x z) l.before.own) _ low in
    let (r, s) = and_parts (if_given (λ x. ltb x z) l.before.other) _ q in
    All-append _ (option_to_list l.before.own) _ (each l.before.own p) (All-append _ (option_to_list l.before.other) _ (each l.before.other r) (each l.entry.prior s))
  where
    each : (o : Option ℕ) → if_given (λ x. ltb x z) o ≡ true → AllByRecursion (λ x. x < z) (option_to_list o)
    each None g = tt
    each (Some x) g = (ltb-true x z g, tt)

-- pasts stay as the takes grows
past-grown : (links : List Link) (z y k₀ k : ℕ) → z < k₀ → k₀ ≤ k → past (takes_of links k) z y ≡ past (takes_of links k₀) z y
past-grown links z y k₀ zero l h = absurd (omega arith)
past-grown links z y k₀ (suc k) l h =
    elim (cases_eq k₀ (suc k)) [
      | inl q ↦ rw q
      | inr q ↦ past-tail (entry_of (get_or links k no_link)) (takes_of links k) z y (omega (arith, length_takes links k)) ∙ past-grown links z y k₀ k l (omega arith)
    ]

in_some-grown : (links : List Link) (y z k : ℕ) → z ≤ k → (xs : List ℕ) → AllByRecursion (λ x. x < z) xs → in_some (past (takes_of links z)) xs y ≡ in_some (past (takes_of links k)) xs y
in_some-grown links y z k h [] all = refl
in_some-grown links y z k h (x ∷ xs) (l, all) = rw (past-grown links x y z k l h, in_some-grown links y z k h xs all)

-- what each link says of pasts
pub record Linked (links : List Link) (len : ℕ) : Type 0 where
  pub low : (z : ℕ) → z < len → earlier z (get_or links z no_link) ≡ true
  pub step : (z y : ℕ) → z < len → past (takes_of links len) z y ≡ (eqb y z || in_some (past (takes_of links len)) (before (get_or links z no_link)) y)

pub linked : (links : List Link) (latest_at : List (Option ℕ)) → Kept links latest_at → Linked links (length links)
linked links latest_at kept = record { low = λ z l. ∥∥₁_elim kept (Bool-set _ _) (λ k. k.low z l); step = λ z y l. ∥∥₁_elim kept (Bool-set _ _) (λ k. step k z y l) }
  where
    step : Keeps links latest_at → (z y : ℕ) → z < length links → past (takes_of links (length links)) z y ≡ (eqb y z || in_some (past (takes_of links (length links))) (before (get_or links z no_link)) y)
    step k z y l =
        let link = get_or links z no_link in
        let size = length_takes links z in
        past-grown links z y (suc z) (length links) (omega arith) (omega arith)
        ∙ ap (λ (n : ℕ). past (takes_of links (suc z)) n y) (sym size) ∙ past_head (entry_of link) (takes_of links z) y
        ∙ ap₂ (λ (n : ℕ) (xs : List ℕ). eqb y n || in_some (past (takes_of links z)) xs y) size (sym (k.right z l))
        ∙ ap (λ (b : Bool). eqb y z || b) (in_some-grown links y z (length links) (omega arith) (before link) (earlier-all z link (k.low z l)))

-- ---- one more entry

module _ (links : List Link) (latest_at latest_at' : List (Option ℕ)) (a : ℕ) (b m own other : Option ℕ) (ok : Admitted (length links) a b m)
    (own_is : own ≡ latest_of latest_at (Some a)) (other_is : other ≡ latest_of latest_at b) (noted : Noted latest_at a b (length links) latest_at') where
  abbrev new : Link
  new = record { entry = record { node = a; partner = b; prior = m }; before = record { own = own; other = other } }

  abbrev more : List Link
  more = links ++ (new ∷ [])

  here : get_or more (length links) no_link ≡ new
  here = get_or-append_seam links new [] no_link

  old : (e : ℕ) → e < (length links) → get_or more e no_link ≡ get_or links e no_link
  old e l = get_or_append_left links (new ∷ []) no_link e (omega arith)

  takes_same : (k : ℕ) → k ≤ (length links) → takes_of more k ≡ takes_of links k
  takes_same k l = listed_like _ _ k (λ e h. ap entry_of (old e (omega arith)))

  pub takes_more : takes_of more ((length links) + 1) ≡ asked a b m ∷ takes_of links (length links)
  takes_more = rw add-one (ap₂ (λ (t : Entry) (ts : List Entry). t ∷ ts) (ap entry_of here) (takes_same (length links) (omega arith)))

  longer : length more ≡ length links + 1
  longer = length-append links (new ∷ [])

  pub takes_all : all_takes more ≡ asked a b m ∷ all_takes links
  takes_all = ap (takes_of more) longer ∙ takes_more

  keeps_more : Keeps links latest_at → Keeps more latest_at'
  keeps_more k =
      record {
        right = λ e l. below_more (λ e. before (get_or more e no_link) ≡ predecessors (entry_of (get_or more e no_link)) (takes_of more e)) (length links)
            (λ e l. rw (old e l, takes_same e (omega arith)) (k.right e l))
            (rw here (ap₂ (λ (o p : Option ℕ). option_to_list o ++ (option_to_list p ++ option_to_list m)) (own_is ∙ last_of k (Some a) ok.node) (other_is ∙ last_of k b ok.partner)
            ∙ ap (predecessors (asked a b m)) (sym (takes_same (length links) (omega arith)))))
            e (omega (arith, l, longer));
        low = λ e l. below_more (λ e. earlier e (get_or more e no_link) ≡ true) (length links)
            (λ e l. rw (old e l) (k.low e l))
            (rw here (and_from _ _ (held k (Some a) own ok.node own_is) (and_from _ _ (held k b other ok.partner other_is) ok.held)))
            e (omega (arith, l, longer));
        last = λ i h. noted i h ∙ ap (cond (at_either a b i) (Some (length links))) (k.last i h) ∙ newest-more i ∙ ap (λ (ts : List Entry). latest ts (Some i)) (sym takes_all);
      }
    where
      last_of : Keeps links latest_at → (o : Option ℕ) → if_given (is_node max_nodes) o ≡ true → latest_of latest_at o ≡ latest (takes_of links (length links)) o
      last_of k None h = refl
      last_of k (Some i) h = k.last i h

      held : Keeps links latest_at → (o x : Option ℕ) → if_given (is_node max_nodes) o ≡ true → x ≡ latest_of latest_at o → if_given (λ y. ltb y (length links)) x ≡ true
      held k o x h e = rw (e ∙ last_of k o h) (rw (length_takes links (length links)) at (latest-low (takes_of links (length links)) o))

      newest-more : (i : ℕ) → cond (at_either a b i) (Some (length links)) (latest (takes_of links (length links)) (Some i)) ≡ latest (asked a b m ∷ takes_of links (length links)) (Some i)
      newest-more i = elim (cases_Bool (at_either a b i)) [ inl s ↦ rw (s, length_takes links (length links)) | inr s ↦ rw s ]

  pub kept_more : Kept links latest_at → Kept more latest_at'
  kept_more kept = ∥∥₁_elim kept ∥∥₁_prop (λ k. ∣ keeps_more k ∣₁)

-- ---- no entries

pub kept-none : (links : List Link) → links ≡ [] → Kept links (replicate max_nodes None)
kept-none links none = rw none (∣ record {
  right = λ e l. absurd (omega arith);
  low = λ e l. absurd (omega arith);
  last = λ i h. get_or-replicate max_nodes (i - 1) None None (omega (arith, node_bounds max_nodes i h));
} ∣₁)
