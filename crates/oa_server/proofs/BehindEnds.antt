-- Behind an end nothing is held.
use Rattle.std.proofs.Common.{◌≡◌, ℕ, Bool, true, false, true≢false, List, [], ◌∷◌, length, refl, sym, ap, ◌∙◌, arith}
use Rattle.oa_disk.specs.declared.disk.Disk.{Ghosts}
use Rattle.oa_record.specs.promise.Replies.{ReplyValue}
use Rattle.oa_mux.specs.promise.Marks.{Flush}
use Rattle.oa_store.specs.declared.store.Store.{Store}
use Rattle.oa_decision.specs.promise.States.{State}
use Rattle.oa_server.specs.SharedGroups.{DeskIsReady}
use Rattle.oa_server.specs.promise.SharedSessions.{AsksIn}
use Rattle.oa_server.specs.Talks.{InputEnds}
use Rattle.oa_server.specs.declared.desk.SharedGroup.{SharedGroup}
use Rattle.oa_server.specs.declared.open_group.OpenGroup.{OpenGroup}
use Rattle.oa_server.specs.declared.storage.Storage.{Storage}
use Rattle.oa_server.specs.declared.storage.Storage.TheVariants.{Disk, Memory}
use Rattle.oa_server.proofs.Lifted.{told_length}

abbrev is_disk : {D : Type 0} {g : Ghosts D} → Storage D g → Bool
is_disk (Memory disk) = false
is_disk (Disk store) = true

no_replies : (replies : List ReplyValue) → length replies ≡ 0 → replies ≡ []
no_replies [] is = refl
no_replies (reply ∷ replies) is = absurd (omega (arith, is))

module _ {D : Type 0} {g : Ghosts D} (now : Store D g) (before between : State) where
  -- of one client
  pub none_held : (a : Storage D g) (one two : OpenGroup) (held : List (List ℕ)) → InputEnds a before one held (Disk now) between two → two.replies.items ≡ []
  none_held (Memory disk) one two held ended = absurd (true≢false (ap (λ (s : Storage D g). is_disk s) ended.0))
  none_held (Disk store) one two held ended = ended.none

  -- of many
  pub none_told_of : (a : Storage D g) (one two : SharedGroup) (frames : List (ℕ × List ℕ)) → AsksIn a before one Flush frames (Disk now) between two
      → DeskIsReady now two → two.open_group.replies.items ≡ []
  none_told_of (Memory disk) one two frames asked ready = absurd (true≢false (ap (λ (s : Storage D g). is_disk s) asked.0))
  none_told_of (Disk store) one two frames asked ready =
      no_replies two.open_group.replies.items (sym (told_length two.askers.items two.open_group.replies.items ready.each) ∙ ap (λ l. length l) asked.taken.1)
