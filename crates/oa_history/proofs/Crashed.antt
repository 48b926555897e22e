-- A crash behind the last call that keeps all that was written leaves what a read gives.
use Rattle.std.proofs.Common.{◌≡◌, ℕ, ◌+◌, ◌*◌, ◌-◌, ◌/◌, List, [], ◌∷◌, ◌++◌, take, drop, length, refl, sym, ◌∙◌, ap, arith}
use Rattle.std.proofs.lemmas.List.{drop-drop, length-drop, take-append-drop, take_all}
use Rattle.oa_disk.specs.promise.Memory.{IsTornAt, memory_contents, moments_of}
use Rattle.oa_disk.specs.promise.CallLog.{laid}
use Rattle.oa_disk.specs.promise.Disk.{DiskState, after_call, count_all, count_of, last_state, synced, torn_all}
use Rattle.oa_disk.specs.declared.call.DeviceCall.{DeviceCall}
use Rattle.oa_disk.specs.declared.call.DeviceCall.TheVariants.{Read, Write, Sync}
use Rattle.oa_disk.specs.declared.crash.Tear.TheVariants.{Kept}
use Rattle.oa_disk.specs.declared.memory.MemoryDisk.{MemoryDisk}

-- with all writes kept the calls are made again
kept_all : (calls : List DeviceCall) (state : DiskState) (written : List ℕ)
    → torn_all Kept state.contents calls written ≡ (last_state state calls written).contents
kept_all [] state written = refl
kept_all (Read ∷ calls) state written = kept_all calls (after_call state Read (take 0 written)) (drop 0 written)
kept_all (Write at count ∷ calls) state written = kept_all calls (after_call state (Write at count) (take count written)) (drop count written)
kept_all (Sync ∷ calls) state written = kept_all calls (after_call state Sync (take 0 written)) (drop 0 written)

last_state-append : (xs ys : List DeviceCall) (state : DiskState) (written : List ℕ) → last_state state (xs ++ ys) written ≡ last_state
    (last_state state xs written) ys (drop (count_all xs) written)
last_state-append [] ys state written = refl
last_state-append (x ∷ xs) ys state written =
    last_state-append xs ys (after_call state x (take (count_of x) written)) (drop (count_of x) written)
    ∙ ap (λ (l : List ℕ). last_state (last_state (after_call state x (take (count_of x) written)) xs (drop (count_of x) written)) ys l)
    (drop-drop (count_all xs) (count_of x) written)

-- of so many calls so many have begun
begun_all : (n : ℕ) → (2 * n + 1) / 2 ≡ n
begun_all n = omega arith

rest_of : (calls : List DeviceCall) (n : ℕ) → take ((2 * length calls + 1) / 2 - n) (drop n calls) ≡ drop n calls
rest_of calls n = take_all ((2 * length calls + 1) / 2 - n) (drop n calls) (omega (arith, begun_all (length calls), length-drop n calls))

pub kept_is_read : (disk : MemoryDisk) (image : List ℕ) → IsTornAt disk Kept (moments_of disk) image → image ≡ memory_contents disk
kept_is_read disk image torn =
    let first = synced (laid disk.first) in
    let calls = disk.ledger.calls.items in
    let written = disk.ledger.written.items in
    let n = torn.synced in
    let begun = last_state first (take n calls) written in
    let rest = drop (count_all (take n calls)) written in
    torn.torn
    ∙ ap (λ (l : List DeviceCall). torn_all Kept begun.contents l rest) (rest_of calls n)
    ∙ kept_all (drop n calls) begun rest
    ∙ ap (λ (s : DiskState). s.contents) (sym (last_state-append (take n calls) (drop n calls) first written))
    ∙ ap (λ (l : List DeviceCall). (last_state first l written).contents) (take-append-drop n calls)
