use Rattle.std.proofs.Common.{◌∙◌, List, ℕ, ap, set, subst, sym}
use Rattle.std.specs.List.{remove}
use Rattle.filter_model.specs.Filters.{Numbered, without}
use Rattle.filter_core.specs.Happenings.{happening}
use Rattle.filter_core.specs.declared.slot.Slot.{Slot}
use Rattle.filter_core.specs.Slots.{IsKept, listed_of, pair_of, pairs_of}
use Rattle.filter_core.proofs.SlotLemmas.{after_ok, found_slot, kept-put, kept-remove, kept_rising, put_slot, remove_put, state_of, tells_closed, tells_open, there_put}
use Rattle.filter_core.proofs.filter.Filter.tell.Goals as goal

pub place_of-requires : goal.place_of-requires
place_of-requires c = rw c.deref.ensures.value (kept_rising _ _ c.self.invariant)

pub tell-requires : goal.tell-requires
tell-requires c =
    let is = rw c.deref.ensures.value at c.in-Some.ensures in
    c.requires.fits (pair_of c.index_mut-slot.result.now) (rw (← c.self.view_is) (found_slot _ _ _ _ is c.index_mut-slot.ensures.value))

pub invariant_of-self : goal.invariant_of-self
invariant_of-self c =
    let is = rw c.deref.ensures.value at c.in-Some.ensures in
    subst (λ (pairs : List Numbered). IsKept pairs c.self.inside.last) (sym (put_slot _ _ _ _ is c.index_mut-slot.ensures.value c.tell.new.slot c.tell.ensures.number))
    (kept-put _ _ c.args.pair (pair_of c.tell.new.slot) c.self.invariant)

pub invariant_of-self-in-true : goal.invariant_of-self-in-true
invariant_of-self-in-true c =
    let is = rw c.deref.ensures.value at c.in-Some.ensures in
    subst (λ (pairs : List Numbered). IsKept pairs c.self.inside.last) (sym (put_slot _ _ _ _ is c.index_mut-slot.ensures.value c.tell.new.slot c.tell.ensures.number))
    (kept-put _ _ c.args.pair (pair_of c.tell.new.slot) c.self.invariant)

pub invariant_of-self-in-false : goal.invariant_of-self-in-false
invariant_of-self-in-false c =
    let is = rw c.deref.ensures.value at c.in-Some.ensures in
    subst (λ (pairs : List Numbered). IsKept pairs c.self.inside.last)
    (sym (ap pairs_of c.close.ensures.slots ∙ remove_put _ _ _ _ is c.index_mut-slot.ensures.value c.tell.new.slot))
    (kept-remove _ _ c.args.pair c.self.invariant)

pub returns-in-true : goal.returns-in-true
returns-in-true c =
    let is = rw c.deref.ensures.value at c.in-Some.ensures in
    rw (← c.self.view_is) (after_ok c.note.result (λ noted. tells_open (listed_of c.self.inside.listed) c.self.inside.slots.items c.self.inside.last c.self.inside.spares.items c.note.new.spares.items c.self.inside.closed.items c.self.inside.parted.items c.note.new.noted.items c.args.pair c.in-Some.place
    (happening c.args.event.now) c.index_mut-slot.result.now c.tell.new.slot c.in_ok-tell-in-Some.field-0 is c.index_mut-slot.ensures.value c.tell.ensures.number
    c.in_ok-tell-in-Some.ensures.looked c.in-true.is (rw (← c.self.view_is) at c.requires.closes) (rw (← c.self.view_is) at c.requires.parts) noted.0 noted.1) c.note.ensures)

pub returns-in-false : goal.returns-in-false
returns-in-false c =
    let is = rw c.deref.ensures.value at c.in-Some.ensures in
    let listed = listed_of c.self.inside.listed in
    let slots = c.self.inside.slots.items in
    let last = c.self.inside.last in
    let parts = c.self.inside.parted.items in
    let there = there_put _ _ _ _ is c.index_mut-slot.ensures.value c.tell.new.slot in
    rw (← c.self.view_is) (after_ok c.close.result (λ closed.
    ap (λ (l : List Slot). state_of listed l last c.close.new.spares.items c.close.new.closed.items parts) c.close.ensures.slots
    ∙ ap (λ (l : List ℕ). state_of listed (remove (set slots c.in-Some.place c.tell.new.slot) c.in-Some.place) last l c.close.new.closed.items parts) (c.close.ensures.spares c.tell.new.slot there)
    ∙ ap (λ (l : List ℕ). state_of listed (remove (set slots c.in-Some.place c.tell.new.slot) c.in-Some.place) last (without c.tell.new.slot.number c.self.inside.spares.items) l parts) closed
    ∙ tells_closed listed slots last c.self.inside.spares.items c.self.inside.closed.items parts c.args.pair c.in-Some.place (happening c.args.event.now) c.index_mut-slot.result.now c.tell.new.slot c.in_ok-tell-in-Some.field-0
    is c.index_mut-slot.ensures.value c.tell.ensures.number c.in_ok-tell-in-Some.ensures.looked c.in-false.is (rw (← c.self.view_is) at c.requires.closes) (rw (← c.self.view_is) at c.requires.parts))
    (c.close.ensures.closed c.tell.new.slot there))
