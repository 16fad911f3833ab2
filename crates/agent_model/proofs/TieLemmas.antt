-- Who waits for the helper, and the asks that are unanswered, where ports change and asks are put and answered.
use Rattle.std.proofs.Common.{◌≡◌, ◌≢◌, ℕ, suc, ◌+◌, ◌<◌, ◌≤◌, List, [], ◌∷◌, ◌++◌, refl, ap, arith, sym, ◌∙◌, ◌==◌, ◌⊎◌, Option, Some, None, Bool, true, false, cond, inl, inr}
use Rattle.std.specs.Option.{option_map, option_or}
use Rattle.std.proofs.lemmas.Bool.{cases_eq}
use Rattle.std.proofs.lemmas.Bool.Decides.{nat_tests}
use Rattle.std.proofs.lemmas.List.Folds.{find-append}
use Rattle.helper_link.specs.Settling as helper
use Rattle.world_ports.specs.declared.Door.{Door}
use Rattle.world_ports.specs.declared.Door.TheVariants.{Clients}
use Rattle.helper_link.specs.Answered.{IsUnanswered}
use Rattle.helper_link.specs.HelperLink.{ask_of}
use Rattle.helper_link.specs.Settling.{find_ask, remove_ask}
use Rattle.helper_link.specs.Sound.{RiseTo}
use Rattle.helper_link.specs.declared.ask.Ask.{Ask}
use Rattle.helper_link.specs.declared.ask.AskKind.{AskKind}
use Rattle.lists.proofs.KeyedLemmas.{differ, found_above, found_within}
use Rattle.lists.specs.Keyed.{has_key}
use Rattle.helper_link.proofs.OrderLemmas.{find-push, find-remove}
use Rattle.agent_model.specs.Fates.{IsTold}
use Rattle.agent_model.specs.Sound.{AreTied, IsWaiting}
use Rattle.agent_model.specs.State.{OnAsk, Port, change_port, find_port, new_port, number_of}
use Rattle.agent_model.specs.Verdicts.{Verdict, verdict_waits}
use Rattle.agent_model.proofs.PortsLemmas.{find_port-apart, find_port-change_port, found_number}

-- ---- ports

-- a port that is found after a change of one is that one, changed, or another
pub data IsOf (number at : ℕ) (f : Port → Port) (ports : List Port) (port : Port) : Type 0 where
  here : (old : Port) → number ≡ at → find_port number ports ≡ Some old → port ≡ f old
      → IsOf number at f ports port
  apart : number ≢ at → find_port number ports ≡ Some port → IsOf number at f ports port

pub found_after : (number at : ℕ) (f : Port → Port) (ports : List Port) (port : Port)
    → ((p : Port) → (f p).number ≡ p.number) → find_port number (change_port at f ports) ≡ Some port
    → IsOf number at f ports port
found_after number at f ports port keeps found = elim (cases_eq number at) [
  | inl same ↦ by_found same (find_port number ports) refl
      (sym (find_port-change_port number f ports keeps) ∙ ap (λ n. find_port number (change_port n f ports)) same ∙ found)
  | inr other ↦ apart other (sym (find_port-apart number at f ports keeps other) ∙ found)
]
  where
    by_found : number ≡ at → (is : Option Port) → find_port number ports ≡ is
        → option_map f is ≡ Some port → IsOf number at f ports port
    by_found same None is some = absurd (cc)
    by_found same (Some old) is some =
        let changed : f old ≡ port = cc in here old same is (sym changed)

-- one that is found where one more joined was there, or is that one
pub found_joined : (number last : ℕ) (door : Door) (ports : List Port) (port : Port)
    → find_port number (ports ++ new_port last door ∷ []) ≡ Some port
    → (find_port number ports ≡ Some port) ⊎ (port ≡ new_port last door)
found_joined number last door ports port found =
    by_found (find_port number ports) (last == number) (sym (find-append (has_key number_of number) ports (new_port last door ∷ [])) ∙ found)
  where
    by_found : (was : Option Port) (same : Bool)
        → option_or was (cond same (Some (new_port last door)) None) ≡ Some port
        → (was ≡ Some port) ⊎ (port ≡ new_port last door)
    by_found (Some was) same is = inl is
    by_found None true is = let new : new_port last door ≡ port = cc in inr (sym new)
    by_found None false is = absurd (cc)

-- one of a number up to the last was there
pub found_known : (number last : ℕ) (door : Door) (ports : List Port) (port : Port) → number ≤ last
    → find_port number (ports ++ new_port (suc last) door ∷ []) ≡ Some port
    → find_port number ports ≡ Some port
found_known number last door ports port known found = elim (found_joined number (suc last) door ports port found) [
  | inl was ↦ was
  | inr new ↦
      (let numbered : port.number ≡ number = found_number number _ port found in
      let is : port.number ≡ suc last = ap (λ (p : Port). p.number) new in
      absurd (omega (arith, numbered, is, known)))
]

-- ---- asks

-- an unanswered ask has a number up to the last
pub ask_within : (ask low last : ℕ) (asks : List Ask) (one : Ask) → RiseTo low asks last
    → find_ask ask asks ≡ Some one → (low < ask) × (ask ≤ last)
ask_within ask low last asks one rise found =
    (found_above helper.number_of ask low last asks one rise found, found_within helper.number_of ask low last asks one rise found)

-- ---- who waits

module _ (ports : List Port) (asks : List Ask) (tied : AreTied ports asks) where
  -- a client that doesn't wait for an ask didn't put it
  pub not_asker : (number ask : ℕ) (one : Ask) (verdict : Verdict) → find_ask ask asks ≡ Some one
      → IsTold number verdict ports → verdict_waits verdict ≢ OnAsk ask → number ≢ one.asker
  not_asker number ask one verdict found told other same =
      other (sym told.waits ∙ tied.asks ask one told.port found (ap (λ n. find_port n ports) (sym same) ∙ told.found))

  -- a client waits for one ask alone
  pub one_ask : (a b : ℕ) (one other : Ask) (port : Port) → find_ask a asks ≡ Some one
      → find_ask b asks ≡ Some other → one.asker ≡ other.asker
      → find_port one.asker ports ≡ Some port → a ≡ b
  one_ask a b one other port this that same found =
      let first : port.waits ≡ OnAsk a = tied.asks a one port this found in
      let second : port.waits ≡ OnAsk b = tied.asks b other port that (ap (λ n. find_port n ports) (sym same) ∙ found) in
      cc

  -- one ask has one asker
  one_asker : (a b : ℕ) (one other : Ask) → a ≡ b → find_ask a asks ≡ Some one
      → find_ask b asks ≡ Some other → one.asker ≡ other.asker
  one_asker a b one other same this that =
      let is : Some one ≡ Some other = sym this ∙ ap (λ n. find_ask n asks) same ∙ that in
      let equal : one ≡ other = cc in
      ap (λ (o : Ask). o.asker) equal

  -- the asker is told what came of its ask
  pub tied-told : (ask asker : ℕ) (kind : AskKind) (f : Port → Port) (low last : ℕ)
      → RiseTo low asks last → IsUnanswered ask asker kind asks
      → ((p : Port) → (f p).number ≡ p.number) → ((p : Port) (a : ℕ) → (f p).waits ≢ OnAsk a)
      → AreTied (change_port asker f ports) (remove_ask ask asks)
  tied-told ask asker kind f low last rise there keeps silent = record {
    waits = λ number a port found is. by_port number a port (found_after number asker f ports port keeps found) is;
    asks = λ a one port left found. by_ask a one port left (found_after one.asker asker f ports port keeps found);
  }
    where
      by_port : (number a : ℕ) (port : Port) → IsOf number asker f ports port → port.waits ≡ OnAsk a
          → IsWaiting number a port (remove_ask ask asks)
      by_port number a port (here old same was is) waits =
          absurd (silent old a (ap (λ (p : Port). p.waits) (sym is) ∙ waits))
      by_port number a port (apart other was) waits =
          let waiting = tied.waits number a port was waits in
          let differs : ask ≢ a = λ same. other (sym (one_asker ask a (ask_of ask asker kind there.blob there.put_at there.size) (ask_of a number waiting.kind waiting.blob waiting.put_at waiting.size) same there.found waiting.unanswered)) in
          record {
            kind = waiting.kind;
            blob = waiting.blob;
            put_at = waiting.put_at;
            size = waiting.size;
            unanswered = find-remove a ask low asks last rise ∙ ap (λ b. cond b None (find_ask a asks)) (differ ask a differs) ∙ waiting.unanswered;
            owed = waiting.owed;
            door = waiting.door;
          }

      by_ask : (a : ℕ) (one : Ask) (port : Port) → find_ask a (remove_ask ask asks) ≡ Some one
          → IsOf one.asker asker f ports port → port.waits ≡ OnAsk a
      by_ask a one port left is = elim (cases_eq ask a) [
        | inl same ↦
            (let gone : (ask == a) ≡ true = grind (arith, nat_tests) in
            let none : None ≡ Some one = sym (ap (λ b. cond b None (find_ask a asks)) gone) ∙ sym (find-remove a ask low asks last rise) ∙ left in
            absurd (cc))
        | inr differs ↦ by_other differs (sym (ap (λ b. cond b None (find_ask a asks)) (differ ask a differs)) ∙ sym (find-remove a ask low asks last rise) ∙ left) is
      ]
        where
          by_other : ask ≢ a → find_ask a asks ≡ Some one → IsOf one.asker asker f ports port
              → port.waits ≡ OnAsk a
          by_other differs was (here old same found is) = absurd (differs (sym (one_ask a ask one (ask_of ask asker kind there.blob there.put_at there.size) old was there.found same found)))
          by_other differs was (apart other found) = tied.asks a one port was found

  -- a client that doesn't wait for an ask is told something, and waits for none
  pub tied-silent : (number : ℕ) (f : Port → Port)
      → ((port : Port) → find_port number ports ≡ Some port → (a : ℕ) → port.waits ≢ OnAsk a)
      → ((p : Port) → (f p).number ≡ p.number) → ((p : Port) (a : ℕ) → (f p).waits ≢ OnAsk a)
      → AreTied (change_port number f ports) asks
  tied-silent number f before keeps silent = record {
    waits = λ n a p found is. by_port n a p (found_after n number f ports p keeps found) is;
    asks = λ a one p was found. by_ask a one p was (found_after one.asker number f ports p keeps found);
  }
    where
      by_port : (n a : ℕ) (p : Port) → IsOf n number f ports p → p.waits ≡ OnAsk a
          → IsWaiting n a p asks
      by_port n a p (here old same was is) waits =
          absurd (silent old a (ap (λ (q : Port). q.waits) (sym is) ∙ waits))
      by_port n a p (apart other was) waits = tied.waits n a p was waits

      by_ask : (a : ℕ) (one : Ask) (p : Port) → find_ask a asks ≡ Some one
          → IsOf one.asker number f ports p → p.waits ≡ OnAsk a
      by_ask a one p was (here old same found is) =
          absurd (before old (ap (λ n. find_port n ports) (sym same) ∙ found) a (tied.asks a one old was found))
      by_ask a one p was (apart other found) = tied.asks a one p was found

  -- a client that doesn't wait for an ask and is owed nothing puts one
  pub tied-asked : (number low last : ℕ) (kind : AskKind) (blob : List ℕ) (now size : ℕ)
      (port : Port) (f : Port → Port)
      → RiseTo low asks last → find_port number ports ≡ Some port → ((a : ℕ) → port.waits ≢ OnAsk a)
      → port.owed ≡ [] → port.door ≡ Clients → ((p : Port) → (f p).number ≡ p.number)
      → ((p : Port) → (f p).door ≡ p.door) → ((p : Port) → (f p).waits ≡ OnAsk (last + 1))
      → ((p : Port) → p.owed ≡ [] → (f p).owed ≡ [])
      → AreTied (change_port number f ports) (asks ++ ask_of (last + 1) number kind blob now size ∷ [])
  tied-asked number low last kind blob now size port f rise there nothing owed door keeps doors waits owes = record {
    waits = λ n a p found is. by_port n a p (found_after n number f ports p keeps found) is;
    asks = λ a one p found at. by_ask a one p (sym (pushed a) ∙ found) (found_after one.asker number f ports p keeps at);
  }
    where
      new : Ask
      new = ask_of (last + 1) number kind blob now size

      pushed : (a : ℕ)
          → find_ask a (asks ++ new ∷ []) ≡ cond (last + 1 == a) (Some new) (find_ask a asks)
      pushed a = find-push a low new asks last rise (omega arith)

      is_port : (n : ℕ) (old : Port) → n ≡ number → find_port n ports ≡ Some old → old ≡ port
      is_port n old same was =
          let is : Some old ≡ Some port = sym was ∙ ap (λ m. find_port m ports) same ∙ there in cc

      by_port : (n a : ℕ) (p : Port) → IsOf n number f ports p → p.waits ≡ OnAsk a
          → IsWaiting n a p (asks ++ new ∷ [])
      by_port n a p (here old same was is) waiting =
          let number_is : OnAsk (last + 1) ≡ OnAsk a = sym (waits old) ∙ ap (λ (q : Port). q.waits) (sym is) ∙ waiting in
          let equal : last + 1 ≡ a = cc in
          let test : (last + 1 == a) ≡ true = grind (arith, nat_tests) in
          let old_is : old ≡ port = is_port n old same was in
          record {
            kind = kind;
            blob = blob;
            put_at = now;
            size = size;
            unanswered = pushed a ∙ ap (λ b. cond b (Some new) (find_ask a asks)) test ∙ ap (λ m. Some (ask_of m number kind blob now size)) equal ∙ ap (λ m. Some (ask_of a m kind blob now size)) (sym same);
            owed =
                ap (λ (q : Port). q.owed) is ∙ owes old (ap (λ (q : Port). q.owed) old_is ∙ owed);
            door =
                ap (λ (q : Port). q.door) is ∙ doors old ∙ ap (λ (q : Port). q.door) old_is ∙ door;
          }
      by_port n a p (apart other was) waiting =
          let w = tied.waits n a p was waiting in
          let within = ask_within a low last asks _ rise w.unanswered in
          record {
            kind = w.kind;
            blob = w.blob;
            put_at = w.put_at;
            size = w.size;
            unanswered = pushed a ∙ ap (λ b. cond b (Some new) (find_ask a asks)) (differ (last + 1) a (λ same. omega (arith, same, within.1))) ∙ w.unanswered;
            owed = w.owed;
            door = w.door;
          }

      by_ask : (a : ℕ) (one : Ask) (p : Port)
          → cond (last + 1 == a) (Some new) (find_ask a asks) ≡ Some one
          → IsOf one.asker number f ports p → p.waits ≡ OnAsk a
      by_ask a one p found is = by_test (last + 1 == a) refl found is
        where
          by_test : (same : Bool) → (last + 1 == a) ≡ same
              → cond same (Some new) (find_ask a asks) ≡ Some one → IsOf one.asker number f ports p
              → p.waits ≡ OnAsk a
          by_test true equal some (here old same was at) =
              let number_is : last + 1 ≡ a = grind (arith, nat_tests) in
              ap (λ (q : Port). q.waits) at ∙ waits old ∙ ap OnAsk number_is
          by_test true equal some (apart other was) =
              let is_new : new ≡ one = cc in absurd (other (sym (ap (λ (o : Ask). o.asker) is_new)))
          by_test false equal some (here old same was at) =
              let put : old.waits ≡ OnAsk a = tied.asks a one old some was in
              let old_is : old ≡ port = is_port one.asker old same was in
              absurd (nothing a (ap (λ (q : Port). q.waits) (sym old_is) ∙ put))
          by_test false equal some (apart other was) = tied.asks a one p some was
