-- What calls leave of a store, one after another.
use Rattle.std.proofs.Common.{◌≡◌, ℕ, ◌+◌, ◌-◌, ◌^◌, ◌<◌, ◌≤◌, Bool, true, false, true≢false, List}
use Rattle.std.proofs.Common.{refl, sym, ◌∙◌, subst, arith}
use Rattle.oa_disk.specs.declared.disk.Disk.{Ghosts}
use Rattle.oa_journal.specs.declared.shape.BankFormat.{BankFormat}
use Rattle.oa_journal.specs.declared.shape.BankFormat.TheVariants.{Two}
use Rattle.oa_store.specs.promise.Stores.{IsStoreIn}
use Rattle.oa_store.specs.declared.store.Store.{Store}
use Rattle.oa_table.specs.promise.Tables.{TableValue}
use Rattle.oa_group_commit.specs.promise.Groups.{AllHoldState, HoldsState, StateMachine}
use Rattle.oa_store.specs.promise.Writing.{DeviceFrame}

-- no call of the device
pub goes_nowhere : {D : Type 0} {g : Ghosts D} (store : Store D g) → DeviceFrame store store
goes_nowhere store = record {
  honest = refl;
  size = refl;
  failures = omega arith;
  once = omega arith;
  shape = refl;
  stops = λ was is. absurd (true≢false (sym is ∙ was));
  stays = λ was. (was, refl);
  unfailed = λ going. refl;
}

-- one call and then others
pub goes_on : {D : Type 0} {g : Ghosts D} (old mid new : Store D g) → DeviceFrame old mid → DeviceFrame mid new → DeviceFrame old new
goes_on {D} {g} old mid new one two = record {
  honest = two.honest ∙ one.honest;
  size = two.size ∙ one.size;
  failures = omega (arith, one.failures, two.failures);
  once = at_most mid.stopped refl;
  shape = two.shape ∙ one.shape;
  stops = λ was is small. by (mid.stopped) refl was is small;
  stays = λ was. let here = one.stays was in let there = two.stays here.0 in (there.0, there.1 ∙ here.1);
  unfailed = λ going. two.unfailed going ∙ one.unfailed (on mid.stopped refl going);
}
  where
    at_most : (b : Bool) → mid.stopped ≡ b → g.failures_of new.disk ≤ g.failures_of old.disk + 1
    at_most false at = let same = one.unfailed at in omega (arith, two.once, same)
    at_most true at = subst (λ (d : D). g.failures_of d ≤ g.failures_of old.disk + 1) (sym (two.stays at).1) one.once

    by : (b : Bool) → mid.stopped ≡ b → old.stopped ≡ false → new.stopped ≡ true → g.failures_of new.disk < 2 ^ 64 - 1
        → g.failures_of old.disk < g.failures_of new.disk
    by false at was is small = let rose = two.stops at is small in omega (arith, one.failures, rose)
    by true at was is small = let rose = one.stops was at (omega (arith, two.failures, small)) in omega (arith, two.failures, rose)

    -- what has stopped does not go on
    on : (b : Bool) → mid.stopped ≡ b → new.stopped ≡ false → mid.stopped ≡ false
    on false at going = at
    on true at going = absurd (true≢false (sym (two.stays at).0 ∙ going))

module _ {S R : Type 0} (t : StateMachine S R) {D : Type 0} {g : Ghosts D} where
  -- an image with the store's banks and library has those of the state that its disk holds
  pub held_as : (store : Store D g) (state : S) → AllHoldState t store state → (held : TableValue) (c : List ℕ)
      → IsStoreIn store.bank.shape c store.library.items held → IsStoreIn (Two (t.bank state)) c (t.text state) held
  held_as store state is held c one =
      subst (λ (l : List ℕ). IsStoreIn (Two (t.bank state)) c l held) is.has (subst (λ (s : BankFormat). IsStoreIn s c store.library.items held) is.shape one)

  -- each image of a store that holds the state
  pub state_held : (store : Store D g) (state : S) → AllHoldState t store state → (c : List ℕ) → g.image store.disk c → HoldsState t state c
  state_held store state is c image = held_as store state is (t.held state) c (store.chosen, store.bank.gate, is.all.1 c image)
