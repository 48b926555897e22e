-- The moments of a run of groups.
use Rattle.std.proofs.Common.{◌≡◌, ◌⊎◌, inl, inr, ⊎_elim, ℕ, zero, suc, ◌+◌, ◌<◌, ◌≤◌, List, [], ◌∷◌, ◌++◌, length, Some, slice_get, refl}
use Rattle.std.proofs.Common.{sym, ◌∙◌, ap, subst, arith, length-append, append_assoc}
use Rattle.std.proofs.lemmas.List.{append-nil}
use Rattle.oa_disk.specs.promise.Disk.{CrashInvariant}
use Rattle.oa_group_commit.specs.promise.Groups.{concat_groups, AscendsFrom, HoldsPrefix, HoldsState, IsRun, Trace}
use Rattle.oa_group_commit.specs.promise.Groups.{Exchange, StateMachine}
use Rattle.oa_group_commit.proofs.Entries.{joined_two, run_append}

get_below : (xs : List ℕ) (j m : ℕ) → slice_get xs j ≡ Some m → j < length xs
get_below [] j m is = absurd (cc)
get_below (x ∷ xs) zero m is = omega arith
get_below (x ∷ xs) (suc j) m is = omega (arith, get_below xs j m is)

get_push : (xs : List ℕ) (y j m : ℕ) → slice_get (xs ++ y ∷ []) j ≡ Some m → (slice_get xs j ≡ Some m) ⊎ ((j ≡ length xs) × (m ≡ y))
get_push [] y zero m is = inr (refl, some_is y m is)
  where
    some_is : (a b : ℕ) → Some a ≡ Some b → b ≡ a
    some_is a b e = cc
get_push [] y (suc j) m is = absurd (cc)
get_push (x ∷ xs) y zero m is = inl is
get_push (x ∷ xs) y (suc j) m is = ⊎_elim (λ there. inl there) (λ last. inr (ap (λ (n : ℕ). suc n) last.0, last.1)) (get_push xs y j m is)

get_keep : (xs : List ℕ) (y m : ℕ) → slice_get xs 0 ≡ Some m → slice_get (xs ++ y ∷ []) 0 ≡ Some m
get_keep [] y m is = absurd (cc)
get_keep (x ∷ xs) y m is = is

rises_push : (from : ℕ) (xs : List ℕ) (y : ℕ) → AscendsFrom from xs → ((j m : ℕ) → slice_get xs j ≡ Some m → m ≤ y) → from ≤ y → AscendsFrom from (xs ++ y ∷ [])
rises_push from [] y rises below le = (le, tt)
rises_push from (x ∷ xs) y rises below le = (rises.0, rises_push x xs y rises.1 (λ j m is. below (suc j) m is) (below 0 x refl))

get_split : (xs ys : List ℕ) (j m : ℕ) → slice_get (xs ++ ys) j ≡ Some m
    → (slice_get xs j ≡ Some m) ⊎ ((k : ℕ) × (j ≡ length xs + k) × (slice_get ys k ≡ Some m))
get_split [] ys j m is = inr (j, omega arith, is)
get_split (x ∷ xs) ys zero m is = inl is
get_split (x ∷ xs) ys (suc j) m is = ⊎_elim (λ there. inl there) (λ rest. inr (rest.0, omega (arith, rest.1), rest.2)) (get_split xs ys j m is)

get_front : (xs ys : List ℕ) (m : ℕ) → slice_get xs 0 ≡ Some m → slice_get (xs ++ ys) 0 ≡ Some m
get_front [] ys m is = absurd (cc)
get_front (x ∷ xs) ys m is = is

rises_join : (from : ℕ) (xs : List ℕ) (y : ℕ) (ys : List ℕ) → AscendsFrom from xs → ((j m : ℕ) → slice_get xs j ≡ Some m → m ≤ y) → from ≤ y → AscendsFrom y ys
    → AscendsFrom from (xs ++ ys)
rises_join from [] y [] rises below le more = tt
rises_join from [] y (z ∷ ys) rises below le more = ((omega (arith, le, more.0)), more.1)
rises_join from (x ∷ xs) y ys rises below le more = (rises.0, rises_join x xs y ys rises.1 (λ j m is. below (suc j) m is) (below 0 x refl) more)

rises_lower : (from lower : ℕ) (moments : List ℕ) → lower ≤ from → AscendsFrom from moments → AscendsFrom lower moments
rises_lower from lower [] le rises = rises
rises_lower from lower (m ∷ moments) le rises = ((omega (arith, le, rises.0)), rises.1)

module _ {S R : Type 0} (t : StateMachine S R) where
  -- the same of more groups
  pub after_more : (count : ℕ) (first : S) (groups : List (List (Exchange R))) (more : List (List (Exchange R))) (c : List ℕ)
      → HoldsPrefix t count first groups c → HoldsPrefix t count first (groups ++ more) c
  after_more count first groups more c is = record {
    done = is.done;
    later = is.later ++ more;
    groups_are = ap (λ (l : List (List (Exchange R))). l ++ more) is.groups_are ∙ append_assoc is.done is.later more;
    enough = is.enough;
    state = is.state;
    run = is.run;
    holds = is.holds;
  }

  -- fewer are asked for
  pub after_fewer : (count fewer : ℕ) (first : S) (groups : List (List (Exchange R))) (c : List ℕ) → fewer ≤ count → HoldsPrefix t count first groups c
      → HoldsPrefix t fewer first groups c
  after_fewer count fewer first groups c le is = record {
    done = is.done;
    later = is.later;
    groups_are = is.groups_are;
    enough = omega (arith, le, is.enough);
    state = is.state;
    run = is.run;
    holds = is.holds;
  }

  -- they all stand
  pub after_all : (first : S) (groups : List (List (Exchange R))) (state : S) (c : List ℕ) → Trace t first (concat_groups groups) state → HoldsState t state c
      → HoldsPrefix t (length groups) first groups c
  after_all first groups state c run holds = record {
    done = groups;
    later = [];
    groups_are = sym (append-nil groups);
    enough = omega arith;
    state = state;
    run = run;
    holds = holds;
  }

  module _ {D : Type 0} (moment : D → ℕ) (image_since : D → ℕ → List ℕ → Type 0) (first : S) where
    -- the first moment alone
    pub one_moment : (old new : D) (groups : List (List (Exchange R))) → moment old ≤ moment new
        → ((c : List ℕ) → image_since new (moment old) c → HoldsPrefix t 0 first groups c)
        → ((m : ℕ) (c : List ℕ) → m ≤ moment old → image_since new m c → image_since old m c ⊎ HoldsPrefix t 0 first groups c)
        → IsRun t moment image_since old new first groups 0 (moment old ∷ [])
    one_moment old new groups later here before = record {
      start = refl;
      rises = (omega arith, tt);
      one_each = refl;
      past = past_each;
      images = images_each;
      before = before;
    }
      where
        same : (a b : ℕ) → Some a ≡ Some b → b ≡ a
        same a b e = cc

        past_each : (j m : ℕ) → slice_get (moment old ∷ []) j ≡ Some m → m ≤ moment new
        past_each zero m is = omega (arith, same (moment old) m is, later)
        past_each (suc j) m is = absurd cc

        images_each : (j m : ℕ) → slice_get (moment old ∷ []) j ≡ Some m → (c : List ℕ) → image_since new m c → HoldsPrefix t j first groups c
        images_each zero m is c since = here c (subst (λ (m : ℕ). image_since new m c) (same (moment old) m is) since)
        images_each (suc j) m is c since = absurd cc

    pub run_started : (start : D) → ((c : List ℕ) → image_since start (moment start) c → HoldsState t first c)
        → IsRun t moment image_since start start first [] 0 (moment start ∷ [])
    run_started start now = one_moment start start [] (omega arith) (λ c since. after_all first [] first c refl (now c since)) (λ m c le since. inl since)

    -- calls after which no image has fewer groups than stood for good, and perhaps one more
    pub run_on : (old mid new : D) (groups more : List (List (Exchange R))) (count : ℕ) (moments : List ℕ) (P : List ℕ → Type 0)
        → IsRun t moment image_since old mid first groups count moments → CrashInvariant moment image_since mid new P
        → ((c : List ℕ) → P c → HoldsPrefix t count first (groups ++ more) c)
        → IsRun t moment image_since old new first (groups ++ more) count moments
    run_on old mid new groups more count moments P run call has = record {
      start = run.start;
      rises = run.rises;
      one_each = run.one_each;
      past = λ j m is. omega (arith, run.past j m is, call.later);
      images = λ j m is c since. ⊎_elim (λ past. after_more j first groups more c (run.images j m is c past))
          (λ now. after_fewer count j first (groups ++ more) c (omega (arith, get_below moments j m is, run.one_each)) (has c now))
          (call.before m c (run.past j m is) since);
      before = λ m c le since. ⊎_elim (λ past. ⊎_elim (λ older. inl older) (λ now. inr (after_more 0 first groups more c now)) (run.before m c le past))
          (λ now. inr (after_fewer count 0 first (groups ++ more) c (omega arith) (has c now)))
          (call.before m c (omega (arith, le, run.past 0 _ run.start)) since);
    }

    -- and one group more stands for good
    pub run_more : (old new : D) (groups : List (List (Exchange R))) (count : ℕ) (moments : List ℕ)
        → IsRun t moment image_since old new first groups count moments
        → ((c : List ℕ) → image_since new (moment new) c → HoldsPrefix t (count + 1) first groups c)
        → IsRun t moment image_since old new first groups (count + 1) (moments ++ moment new ∷ [])
    run_more old new groups count moments run now = record {
      start = get_keep moments (moment new) (moment old) run.start;
      rises = rises_push (moment old) moments (moment new) run.rises run.past (run.past 0 _ run.start);
      one_each = omega (arith, run.one_each, length-append moments (moment new ∷ []));
      past = λ j m is. ⊎_elim (run.past j m) (λ last. omega (arith, last.1)) (get_push moments (moment new) j m is);
      images = λ j m is c since. ⊎_elim (λ there. run.images j m there c since)
          (λ last. after_fewer (count + 1) j first groups c (omega (arith, last.0, run.one_each)) (now c (subst (λ (m : ℕ). image_since new m c) last.1 since)))
          (get_push moments (moment new) j m is);
      before = run.before;
    }

  -- groups of a later call stand behind all those of the calls before
  pub after_behind : (count : ℕ) (first : S) (groups : List (List (Exchange R))) (state : S) (more : List (List (Exchange R))) (c : List ℕ)
      → Trace t first (concat_groups groups) state → HoldsPrefix t count state more c → HoldsPrefix t (length groups + count) first (groups ++ more) c
  after_behind count first groups state more c run is = record {
    done = groups ++ is.done;
    later = is.later;
    groups_are = ap (λ (l : List (List (Exchange R))). groups ++ l) is.groups_are ∙ sym (append_assoc groups is.done is.later);
    enough = omega (arith, is.enough, length-append groups is.done);
    state = is.state;
    run = subst (λ (l : List (Exchange R)). Trace t first l is.state) (sym (joined_two groups is.done))
        (run_append t first (concat_groups groups) state (concat_groups is.done) is.state run is.run);
    holds = is.holds;
  }

  module _ {D : Type 0} (moment : D → ℕ) (image_since : D → ℕ → List ℕ → Type 0) (first state : S) where
    -- one call of run behind another
    pub run_joined : (old mid new : D) (groups more : List (List (Exchange R))) (count : ℕ) (moments others : List ℕ)
        → Trace t first (concat_groups groups) state
        → IsRun t moment image_since old mid first groups (length groups) moments → IsRun t moment image_since mid new state more count others
        → (x : List ℕ) × ((y : List ℕ) × (x ≡ moments ++ y)) × IsRun t moment image_since old new first (groups ++ more) (length groups + count) x
    run_joined old mid new groups more count moments [] stands run next = absurd (none_there next.start)
      where
        none_there : slice_get [] 0 ≡ Some (moment mid) → ⊥
        none_there e = absurd (cc)
    run_joined old mid new groups more count moments (m ∷ others) stands run next = (
      moments ++ others,
      (others, refl),
      record {
        start = get_front moments others (moment old) run.start;
        rises = rises_join (moment old) moments (moment mid) others run.rises run.past (run.past 0 _ run.start)
            (rises_lower m (moment mid) others next.rises.0 next.rises.1);
        one_each = omega (arith, length-append moments others, run.one_each, next.one_each);
        past = λ j k is. ⊎_elim (λ there. omega (arith, run.past j k there, next.past 0 _ next.start)) (λ rest. next.past (suc rest.0) k rest.2)
            (get_split moments others j k is);
        images = λ j k is c since. ⊎_elim (λ there. early j k there c (next.before k c (run.past j k there) since))
            (λ rest. after_fewer (length groups + suc rest.0) j first (groups ++ more) c (omega (arith, rest.1, run.one_each))
            (after_behind (suc rest.0) first groups state more c stands (next.images (suc rest.0) k rest.2 c since)))
            (get_split moments others j k is);
        before = λ m c le since. ⊎_elim (λ past. ⊎_elim (λ older. inl older) (λ now. inr (after_more 0 first groups more c now)) (run.before m c le past))
            (λ now. inr (after_fewer (length groups + 0) 0 first (groups ++ more) c (omega arith) (after_behind 0 first groups state more c stands now)))
            (next.before m c (omega (arith, le, run.past 0 _ run.start)) since);
      },
    )
      where
        early : (j k : ℕ) → slice_get moments j ≡ Some k → (c : List ℕ) → image_since mid k c ⊎ HoldsPrefix t 0 state more c
            → HoldsPrefix t j first (groups ++ more) c
        early j k there c (inl past) = after_more j first groups more c (run.images j k there c past)
        early j k there c (inr now) = after_fewer (length groups + 0) j first (groups ++ more) c (omega (arith, get_below moments j k there, run.one_each))
            (after_behind 0 first groups state more c stands now)
