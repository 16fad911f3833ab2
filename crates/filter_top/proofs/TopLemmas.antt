-- What was read of the list, and how the program ends.
use Rattle.std.proofs.Common.{◌≡◌, ◌∙◌, ◌++◌, ◌∷◌, [], ◌≤◌, inl, inr, ℕ, List, Option, Some, None, Result, Ok, length, refl, sym, subst, ap}
use Rattle.std.specs.Option.{IfSome}
use Rattle.std.proofs.lemmas.Option.{same_Some}
use Rattle.key_file.specs.declared.fault.PubFault.{PubFault}
use Rattle.world_ports.specs.Files.{FilesView, Holds}
use Rattle.pair_ports.specs.declared.entry.PairEntry.{PairEntry}
use Rattle.world_ports.specs.Journal.{Grows}
use Rattle.key_purposes.specs.declared.fault.PurposeFault.{PurposeFault}
use Rattle.key_purposes.specs.declared.purpose.Purpose.{Purpose}
use Rattle.filter_model.specs.Lists.{Listed}
use Rattle.filter_model.specs.Answered.{Reading}
use Rattle.filter_model.specs.LegalPairs.{first_reading, read_on}
use Rattle.filter_model.proofs.FairLemmas.{each_is_fair}
use Rattle.filter_model.proofs.PassLemmas.{each_passes}
use Rattle.filter_top.specs.Moves.{MovesUpTo, Stops}
use Rattle.filter_top.specs.Passing.{PassesExactly, ServesFairly}
use Rattle.filter_top.proofs.MoveLemmas.{no_call, stops_there}
use Rattle.filter_top.specs.declared.status.FilterStatus.{FilterStatus}
use Rattle.filter_top.specs.declared.status.FilterStatus.TheVariants as status
use Rattle.filter_top.specs.Lists.{blobs_in, longest_list}
use Rattle.filter_top.specs.Program.{Asked, IsListOf, IsListed, IsRefused, Runs, Serves}
use Rattle.filter_top.specs.Purposes.{purposes_named}

-- ---- the list

-- what a file holds, where that is told
pub held_is : (files : FilesView) (held : List ℕ → Option (List ℕ)) (path bytes : List ℕ) → files.held ≡ Some held → Holds files path bytes → held path ≡ Some bytes
held_is files held path bytes told holds = subst (λ (known : Option (List ℕ → Option (List ℕ))). IfSome known (λ at. at path ≡ Some bytes)) told holds

listed_by : (kept : Option (List ℕ)) (text : List ℕ) (blobs : List (List ℕ)) → kept ≡ Some text → length text ≤ longest_list → blobs_in text ≡ Ok blobs → IsListOf kept blobs
listed_by kept text blobs is short read = subst (λ (k : Option (List ℕ)). IsListOf k blobs) (sym is) (short, read)

-- ---- the end

-- the program ended before its loop
pub ends_before : (held : List ℕ → Option (List ℕ)) (asked : Asked) (result : FilterStatus) (journal : Option (List PairEntry)) → IsRefused result (held asked.list) asked.purposes → Runs held asked result journal journal
ends_before held asked status.Done journal (inl refused) = absurd refused
ends_before held asked status.Done journal (inr refused) = absurd refused
ends_before held asked (status.BadList line fault) journal (inl refused) = absurd refused
ends_before held asked (status.BadList line fault) journal (inr refused) = (refused, refl)
ends_before held asked status.Usage journal (inl refused) = absurd refused
ends_before held asked status.Usage journal (inr refused) = absurd refused
ends_before held asked status.BindFault journal (inl refused) = absurd refused
ends_before held asked status.BindFault journal (inr refused) = absurd refused
ends_before held asked status.PollFault journal (inl refused) = absurd refused
ends_before held asked status.PollFault journal (inr refused) = absurd refused
ends_before held asked status.Memory journal refused = inl refl
ends_before held asked status.FileFault journal refused = refl
ends_before held asked status.FileTooLong journal refused = refl
ends_before held asked (status.BadPurpose fault) journal (inl refused) = (refused, refl)
ends_before held asked (status.BadPurpose fault) journal (inr refused) = absurd refused

-- it ended with its loop
pub ends_with : (held : List ℕ → Option (List ℕ)) (asked : Asked) (listed : Listed) (result : FilterStatus) (old new : Option (List PairEntry)) → IsListed (held asked.list) asked.purposes listed
    → Serves result (first_reading listed asked.path asked.upstream) old new → Runs held asked result old new
ends_with held asked listed status.Done old new is serves = record { listed = listed; is = is; serves = serves }
ends_with held asked listed (status.BadList line fault) old new is serves = absurd serves
ends_with held asked listed status.Usage old new is serves = absurd serves
ends_with held asked listed status.BindFault old new is serves = record { listed = listed; is = is; serves = serves }
ends_with held asked listed status.PollFault old new is serves = record { listed = listed; is = is; serves = serves }
ends_with held asked listed status.Memory old new is serves = inr (record { listed = listed; is = is; serves = serves })
ends_with held asked listed status.FileFault old new is serves = absurd serves
ends_with held asked listed status.FileTooLong old new is serves = absurd serves
ends_with held asked listed (status.BadPurpose fault) old new is serves = absurd serves

-- what the words ask for is one thing
pub asked_once : (read : Asked) (asked : Asked) (found : Option Asked) → Some read ≡ found → found ≡ Some asked → read ≡ asked
asked_once read asked found is also = same_Some _ _ (is ∙ also)

-- ---- what the calls come to

same_read : (one other : List (List ℕ)) → ◌≡◌ {A = Result (List (List ℕ)) (ℕ × PubFault)} (Ok one) (Ok other) → one ≡ other
same_read one other same = cc

-- a list is one
same_list : (kept : Option (List ℕ)) (one other : List (List ℕ)) → IsListOf kept one → IsListOf kept other → one ≡ other
same_list None one other is also = absurd is
same_list (Some text) one other is also = same_read one other (sym is.1 ∙ also.1)

-- so are the purposes of words
same_named : (read : Result (Option (List Purpose)) PurposeFault) (one other : Option (List Purpose)) → read ≡ Ok one → read ≡ Ok other → one ≡ other
same_named read one other is also = let both : ◌≡◌ {A = Result (Option (List Purpose)) PurposeFault} (Ok one) (Ok other) = sym is ∙ also in cc

same_listed : (held : Option (List ℕ)) (words : List (List ℕ)) (one other : Listed) → IsListed held words one → IsListed held words other → one ≡ other
same_listed held words one other is also =
    ap (λ (b : List (List ℕ)). let l : Listed = record { blobs = b; purposes = one.purposes } in l) (same_list held one.blobs other.blobs is.list also.list)
    ∙ ap (λ (p : Option (List Purpose)). let l : Listed = record { blobs = other.blobs; purposes = p } in l) (same_named (purposes_named words) one.purposes other.purposes is.named also.named)

-- calls that may come, up to any end
pub record Calls (from : Reading) (old new : Option (List PairEntry)) : Type 0 where
  pub calls : List PairEntry
  pub to : Reading
  pub told : Grows old new calls
  pub legal : read_on from calls ≡ Some to

calls_up_to : {from : Reading} {old new : Option (List PairEntry)} {last : PairEntry} → MovesUpTo from old new last → Calls from old new
calls_up_to {from} {old} {new} {last} moves = record { calls = moves.before ++ last ∷ []; to = moves.to; told = moves.told; legal = moves.legal }

calls_to_stop : {from : Reading} {old new : Option (List PairEntry)} → Stops from old new → Calls from old new
calls_to_stop stops = record { calls = stops.moves.added; to = stops.to; told = stops.moves.told; legal = stops.moves.legal }

calls_made : (result : FilterStatus) (from : Reading) (old new : Option (List PairEntry)) → Serves result from old new → Calls from old new
calls_made status.Done from old new serves = calls_up_to serves.moves
calls_made (status.BadList line fault) from old new serves = absurd serves
calls_made status.Usage from old new serves = absurd serves
calls_made status.BindFault from old new serves = calls_up_to serves.moves
calls_made status.PollFault from old new serves = calls_up_to serves.moves
calls_made status.Memory from old new serves = calls_to_stop serves
calls_made status.FileFault from old new serves = absurd serves
calls_made status.FileTooLong from old new serves = absurd serves
calls_made (status.BadPurpose fault) from old new serves = absurd serves

-- none were made
pub no_calls : (from : Reading) (journal : Option (List PairEntry)) → Calls from journal journal
no_calls from journal = calls_to_stop (stops_there (no_call from journal))

pub passes_by : (listed : Listed) (asked : Asked) (old new : Option (List PairEntry)) → Calls (first_reading listed asked.path asked.upstream) old new → PassesExactly listed asked old new
passes_by listed asked old new made = record {
  calls = made.calls;
  to = made.to;
  told = made.told;
  legal = made.legal;
  passes = each_passes listed asked.path asked.upstream made.calls made.to made.legal;
}

pub fair_by : (listed : Listed) (asked : Asked) (old new : Option (List PairEntry)) → Calls (first_reading listed asked.path asked.upstream) old new → ServesFairly listed asked old new
fair_by listed asked old new made = record {
  calls = made.calls;
  told = made.told;
  fair = each_is_fair listed asked.path asked.upstream made.calls made.to made.legal;
}

-- the calls of a loop that began with what may be used are those of this one
pub calls_of : (held : Option (List ℕ)) (listed read : Listed) (asked : Asked) (result : FilterStatus) (old new : Option (List PairEntry)) → IsListed held asked.purposes listed → IsListed held asked.purposes read
    → Serves result (first_reading read asked.path asked.upstream) old new → Calls (first_reading listed asked.path asked.upstream) old new
calls_of held listed read asked result old new is also serves =
    calls_made result (first_reading listed asked.path asked.upstream) old new
    (subst (λ (l : Listed). Serves result (first_reading l asked.path asked.upstream) old new) (same_listed held asked.purposes read listed also is) serves)
