-- Each reply goes to the client whose request it is of.
use Rattle.std.proofs.Common.{◌≡◌, ◌⊎◌, inl, inr, ℕ, false, true, List, [], ◌∷◌, ◌++◌, map, refl, sym, ap, ◌∙◌, subst, append_assoc}
use Rattle.std.proofs.lemmas.List.{map-append}
use Rattle.oa_disk.specs.declared.disk.Disk.{Ghosts}
use Rattle.oa_group_commit.proofs.Entries.{either, joined_two}
use Rattle.oa_group_commit.specs.promise.Groups.{concat_groups, Trace, IsServed, Exchange, body_of, reply_of}
use Rattle.oa_record.specs.promise.Replies.{ReplyValue}
use Rattle.oa_server.specs.promise.ServerMachine as one_client
use Rattle.oa_server.specs.promise.SharedMachine.{shared_machine, ClientReply, IsSharedTurn, Shared, SharedTurnOf}
use Rattle.oa_server.specs.promise.SharedMachine.{brought_by, client_in, failed_client_reply, fault_client_reply}
use Rattle.oa_server.specs.promise.SharedMachine.{told_by}
use Rattle.oa_server.specs.declared.storage.Storage.{Storage}
use Rattle.oa_server.specs.declared.storage.Storage.TheVariants.{Disk, Memory}
use Rattle.oa_mux.specs.promise.Readers.{Body, Brought, Ends}
use Rattle.oa_store.specs.declared.store.Store.{Store}
use Rattle.oa_history.specs.Framed.{RepliesGoToClients}
use Rattle.oa_history.specs.promise.Framed.{ServesShared, client_of}

told_to_it : (code : List ℕ → ReplyValue) (client : ℕ) (brought : Brought) → client_of (told_by code client brought) ≡ client
told_to_it code client (Body body) = refl
told_to_it code client (Ends why) = refl

module _ (asked : Exchange ClientReply) (old new : Shared) (one : IsSharedTurn asked old new) where
  by_turn : (brought : Brought) → SharedTurnOf one.client brought asked.reply old new → client_of asked.reply ≡ one.client
  by_turn (Body body) turn = ap client_of turn.told_is
  by_turn (Ends why) turn = ap client_of turn.told_is

  of_turn : client_of asked.reply ≡ client_in asked.body
  of_turn = by_turn one.brought one.turn ∙ ap client_in (sym one.body_is)

cons_same : (m n : ℕ) (xs ys : List ℕ) → m ≡ n → xs ≡ ys → m ∷ xs ≡ n ∷ ys
cons_same m n xs ys here there = ap (λ (k : ℕ). k ∷ xs) here ∙ ap (λ (l : List ℕ). n ∷ l) there

-- of what was answered
answered : (old new : Shared) (front back : List (Exchange ClientReply)) → Trace shared_machine old (front ++ back) new
    → map client_of (map reply_of front) ≡ map client_in (map body_of front)
answered old new [] back run = refl
answered old new (asked ∷ front) back run =
    cons_same (client_of asked.reply) (client_in asked.body) (map client_of (map reply_of front)) (map client_in (map body_of front))
    (of_turn asked old run.0 run.1) (answered run.0 new front back run.2)

-- of the group in which the device failed, and of what came behind it
aborted : (entries : List (Exchange ClientReply)) → map client_of (map (λ asked. fault_client_reply asked.body) entries) ≡ map client_in (map body_of entries)
aborted [] = refl
aborted (asked ∷ entries) =
    cons_same (client_of (fault_client_reply asked.body)) (client_in asked.body) (map client_of (map (λ asked. fault_client_reply asked.body) entries))
    (map client_in (map body_of entries))
    (told_to_it one_client.fault_reply (client_in asked.body) (brought_by asked.body)) (aborted entries)

refused : (bodies : List (List ℕ)) → map client_of (map failed_client_reply bodies) ≡ map client_in bodies
refused [] = refl
refused (body ∷ bodies) =
    cons_same (client_of (failed_client_reply body)) (client_in body) (map client_of (map failed_client_reply bodies)) (map client_in bodies)
    (told_to_it one_client.failed_reply (client_in body) (brought_by body)) (refused bodies)

all_three : (a b c : List ClientReply) (x y z : List (List ℕ)) → map client_of a ≡ map client_in x → map client_of b ≡ map client_in y
    → map client_of c ≡ map client_in z → map client_of (a ++ (b ++ c)) ≡ map client_in ((x ++ y) ++ z)
all_three a b c x y z one two three =
    map-append client_of a (b ++ c)
    ∙ ap (λ (l : List ℕ). map client_of a ++ l) (map-append client_of b c)
    ∙ ap (λ (l : List ℕ). l ++ (map client_of b ++ map client_of c)) one
    ∙ ap (λ (l : List ℕ). map client_in x ++ (l ++ map client_of c)) two
    ∙ ap (λ (l : List ℕ). map client_in x ++ (map client_in y ++ l)) three
    ∙ sym (append_assoc (map client_in x) (map client_in y) (map client_in z))
    ∙ ap (λ (l : List ℕ). l ++ map client_in z) (sym (map-append client_in x y))
    ∙ sym (map-append client_in (x ++ y) z)

module _ {D : Type 0} {g : Ghosts D} (size : ℕ) (old new : Store D g) (before after : Shared) (bodies : List (List ℕ)) (replies : List ClientReply) where
  served_to : IsServed shared_machine size old new before after bodies replies → map client_of replies ≡ map client_in bodies
  served_to is =
      let groups = concat_groups is.groups in
      let group = concat_groups is.faulted in
      let entries : concat_groups (is.groups ++ is.faulted) ≡ groups ++ group = joined_two is.groups is.faulted in
      ap (map client_of) is.served.replies_are
      ∙ all_three (map reply_of groups) (map (λ asked. fault_client_reply asked.body) group) (map failed_client_reply is.others) (map body_of groups)
      (map body_of group) is.others
      (answered before after groups group (subst (λ (l : List (Exchange ClientReply)). Trace shared_machine before l after) entries is.served.run))
      (aborted group) (refused is.others)
      ∙ ap (λ (l : List (List ℕ)). map client_in (l ++ is.others)) (sym (map-append body_of groups group))
      ∙ ap (λ (l : List (Exchange ClientReply)). map client_in (map body_of l ++ is.others)) (sym entries)
      ∙ ap (map client_in) (sym is.served.bodies_are)

pub replies_go_to_clients : {D : Type 0} (g : Ghosts D) → RepliesGoToClients g
replies_go_to_clients g size (Memory old) new before after bodies replies is = absurd is
replies_go_to_clients g size (Disk old) (Memory new) before after bodies replies is = absurd is
replies_go_to_clients g size (Disk old) (Disk new) before after bodies replies is = by (either old.stopped)
  where
    by : (old.stopped ≡ false) ⊎ (old.stopped ≡ true) → map client_of replies ≡ map client_in bodies
    by (inl going) = served_to {g = g} size old new before after bodies replies (is.served going)
    by (inr stopped) = ap (map client_of) (is.late stopped).told_is ∙ refused bodies
