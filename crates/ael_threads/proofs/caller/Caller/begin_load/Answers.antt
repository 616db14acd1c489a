use Rattle.std.proofs.Common.{sym, ◌∙◌, subst}
use Rattle.record_access.specs.Access.{IsHeapAddress}
use Rattle.ael_threads.proofs.WholeCalls.Direct.{arrives_at_gate, arrives_there, begun_apart, caller_ready, has_loaded, invariant_of, may_at_gate, may_there, at_gate, past_gate, past_page, past_value_page, record_lies, starts, to_far_value, to_near_value, value_lies}
use Rattle.ael_threads.proofs.caller.Caller.begin_load.Goals as goal

pub invariant_of-self : goal.invariant_of-self
invariant_of-self c =
    let apart = begun_apart _ _ _ _ _ _ _ c.deref_mut-worker.ensures.value c.begin_load.ensures c.self.view_is (caller_ready c.self.view_is c.self.invariant) c.requires.idle c.requires.may_begin in
    invariant_of c.self.invariant.0 apart.0

pub returns-then-not-looks-clause-begun : goal.returns-then-not-looks-clause-begun
returns-then-not-looks-clause-begun c =
    let apart = begun_apart _ _ _ _ _ _ _ c.deref_mut-worker.ensures.value c.begin_load.ensures c.self.view_is (caller_ready c.self.view_is c.self.invariant) c.requires.idle c.requires.may_begin in
    apart.1

pub loads-gate-requires-clause-ready : goal.loads-gate-requires-clause-ready
loads-gate-requires-clause-ready c =
    let s = starts _ _ _ _ _ _ _ _ c.deref_mut-worker.ensures.value c.self.view_is (caller_ready c.self.view_is c.self.invariant) c.requires.idle c.requires.may_begin (c.looks.ensures.looks c.if-not-looks.false) c.looks.ensures.counts_nothing in
    (at_gate s).ready

pub load_at_gate-requires-clause-may : goal.load_at_gate-requires-clause-may
load_at_gate-requires-clause-may c =
    let s = starts _ _ _ _ _ _ _ _ c.deref_mut-worker.ensures.value c.self.view_is (caller_ready c.self.view_is c.self.invariant) c.requires.idle c.requires.may_begin (c.looks.ensures.looks c.if-not-looks.false) c.looks.ensures.counts_nothing in
    may_at_gate s _ _ c.loads-gate.ensures.moved

pub invariant_of-self-in_default : goal.invariant_of-self-in_default
invariant_of-self-in_default c =
    let s = starts _ _ _ _ _ _ _ _ c.deref_mut-worker.ensures.value c.self.view_is (caller_ready c.self.view_is c.self.invariant) c.requires.idle c.requires.may_begin (c.looks.ensures.looks c.if-not-looks.false) c.looks.ensures.counts_nothing in
    let arrived = arrives_at_gate s c.load_at_gate.ensures c.loads-gate.ensures.table.0 c.loads-gate.ensures.moved in
    invariant_of (c.loads-gate.ensures.table.1 ∙ c.self.invariant.0) arrived.ready

pub returns-in_default-clause-begun : goal.returns-in_default-clause-begun
returns-in_default-clause-begun c =
    let s = starts _ _ _ _ _ _ _ _ c.deref_mut-worker.ensures.value c.self.view_is (caller_ready c.self.view_is c.self.invariant) c.requires.idle c.requires.may_begin (c.looks.ensures.looks c.if-not-looks.false) c.looks.ensures.counts_nothing in
    let arrived = arrives_at_gate s c.load_at_gate.ensures c.loads-gate.ensures.table.0 c.loads-gate.ensures.moved in
    arrived.begun

pub page_place-requires : goal.page_place-requires
page_place-requires c =
    let s = starts _ _ _ _ _ _ _ _ c.deref_mut-worker.ensures.value c.self.view_is (caller_ready c.self.view_is c.self.invariant) c.requires.idle c.requires.may_begin (c.looks.ensures.looks c.if-not-looks.false) c.looks.ensures.counts_nothing in
    let page = past_gate s c.looks_at_record-stage.ensures c.in-Some.ensures c.loads-gate.ensures.table.0 c.loads-gate.ensures.moved in
    record_lies s page c.looks_at_record-stage.ensures

pub loads-page-requires-clause-ready : goal.loads-page-requires-clause-ready
loads-page-requires-clause-ready c =
    let s = starts _ _ _ _ _ _ _ _ c.deref_mut-worker.ensures.value c.self.view_is (caller_ready c.self.view_is c.self.invariant) c.requires.idle c.requires.may_begin (c.looks.ensures.looks c.if-not-looks.false) c.looks.ensures.counts_nothing in
    let page = past_gate s c.looks_at_record-stage.ensures c.in-Some.ensures c.loads-gate.ensures.table.0 c.loads-gate.ensures.moved in
    page.ready

pub load_at_page-requires : goal.load_at_page-requires
load_at_page-requires c =
    let s = starts _ _ _ _ _ _ _ _ c.deref_mut-worker.ensures.value c.self.view_is (caller_ready c.self.view_is c.self.invariant) c.requires.idle c.requires.may_begin (c.looks.ensures.looks c.if-not-looks.false) c.looks.ensures.counts_nothing in
    let page = past_gate s c.looks_at_record-stage.ensures c.in-Some.ensures c.loads-gate.ensures.table.0 c.loads-gate.ensures.moved in
    may_there s page c.looks_at_record-stage.ensures c.loads-page.ensures.moved

pub invariant_of-self-then-not-is_open : goal.invariant_of-self-then-not-is_open
invariant_of-self-then-not-is_open c =
    let s = starts _ _ _ _ _ _ _ _ c.deref_mut-worker.ensures.value c.self.view_is (caller_ready c.self.view_is c.self.invariant) c.requires.idle c.requires.may_begin (c.looks.ensures.looks c.if-not-looks.false) c.looks.ensures.counts_nothing in
    let page = past_gate s c.looks_at_record-stage.ensures c.in-Some.ensures c.loads-gate.ensures.table.0 c.loads-gate.ensures.moved in
    let arrived = arrives_there s page c.looks_at_record-stage.ensures c.load_at_page.ensures c.loads-page.ensures.table.0 c.loads-page.ensures.moved in
    invariant_of (c.loads-page.ensures.table.1 ∙ (c.loads-gate.ensures.table.1 ∙ c.self.invariant.0)) arrived.ready

pub returns-then-not-is_open-clause-same : goal.returns-then-not-is_open-clause-same
returns-then-not-is_open-clause-same c =
    let s = starts _ _ _ _ _ _ _ _ c.deref_mut-worker.ensures.value c.self.view_is (caller_ready c.self.view_is c.self.invariant) c.requires.idle c.requires.may_begin (c.looks.ensures.looks c.if-not-looks.false) c.looks.ensures.counts_nothing in
    let page = past_gate s c.looks_at_record-stage.ensures c.in-Some.ensures c.loads-gate.ensures.table.0 c.loads-gate.ensures.moved in
    let arrived = arrives_there s page c.looks_at_record-stage.ensures c.load_at_page.ensures c.loads-page.ensures.table.0 c.loads-page.ensures.moved in
    (arrived.number, arrived.mutators)

pub returns-then-not-is_open-clause-begun : goal.returns-then-not-is_open-clause-begun
returns-then-not-is_open-clause-begun c =
    let s = starts _ _ _ _ _ _ _ _ c.deref_mut-worker.ensures.value c.self.view_is (caller_ready c.self.view_is c.self.invariant) c.requires.idle c.requires.may_begin (c.looks.ensures.looks c.if-not-looks.false) c.looks.ensures.counts_nothing in
    let page = past_gate s c.looks_at_record-stage.ensures c.in-Some.ensures c.loads-gate.ensures.table.0 c.loads-gate.ensures.moved in
    let arrived = arrives_there s page c.looks_at_record-stage.ensures c.load_at_page.ensures c.loads-page.ensures.table.0 c.loads-page.ensures.moved in
    arrived.begun

pub loads-header-requires-clause-ready : goal.loads-header-requires-clause-ready
loads-header-requires-clause-ready c =
    let s = starts _ _ _ _ _ _ _ _ c.deref_mut-worker.ensures.value c.self.view_is (caller_ready c.self.view_is c.self.invariant) c.requires.idle c.requires.may_begin (c.looks.ensures.looks c.if-not-looks.false) c.looks.ensures.counts_nothing in
    let page = past_gate s c.looks_at_record-stage.ensures c.in-Some.ensures c.loads-gate.ensures.table.0 c.loads-gate.ensures.moved in
    let header = past_page s page c.looks_at_record-stage.ensures c.loads_header-stage.ensures (c.is_open.ensures c.if-not-is_open.false) c.loads-page.ensures.table.0 c.loads-page.ensures.moved in
    header.ready

pub invariant_of-self-in_default-role_stored : goal.invariant_of-self-in_default-role_stored
invariant_of-self-in_default-role_stored c =
    let s = starts _ _ _ _ _ _ _ _ c.deref_mut-worker.ensures.value c.self.view_is (caller_ready c.self.view_is c.self.invariant) c.requires.idle c.requires.may_begin (c.looks.ensures.looks c.if-not-looks.false) c.looks.ensures.counts_nothing in
    let page = past_gate s c.looks_at_record-stage.ensures c.in-Some.ensures c.loads-gate.ensures.table.0 c.loads-gate.ensures.moved in
    let header = past_page s page c.looks_at_record-stage.ensures c.loads_header-stage.ensures (c.is_open.ensures c.if-not-is_open.false) c.loads-page.ensures.table.0 c.loads-page.ensures.moved in
    let arrived = arrives_there s header c.loads_header-stage.ensures c.load_at_header.ensures c.loads-header.ensures.table.0 c.loads-header.ensures.moved in
    invariant_of (c.loads-header.ensures.table.1 ∙ (c.loads-page.ensures.table.1 ∙ (c.loads-gate.ensures.table.1 ∙ c.self.invariant.0))) arrived.ready

pub returns-in_default-role_stored-clause-same : goal.returns-in_default-role_stored-clause-same
returns-in_default-role_stored-clause-same c =
    let s = starts _ _ _ _ _ _ _ _ c.deref_mut-worker.ensures.value c.self.view_is (caller_ready c.self.view_is c.self.invariant) c.requires.idle c.requires.may_begin (c.looks.ensures.looks c.if-not-looks.false) c.looks.ensures.counts_nothing in
    let page = past_gate s c.looks_at_record-stage.ensures c.in-Some.ensures c.loads-gate.ensures.table.0 c.loads-gate.ensures.moved in
    let header = past_page s page c.looks_at_record-stage.ensures c.loads_header-stage.ensures (c.is_open.ensures c.if-not-is_open.false) c.loads-page.ensures.table.0 c.loads-page.ensures.moved in
    let arrived = arrives_there s header c.loads_header-stage.ensures c.load_at_header.ensures c.loads-header.ensures.table.0 c.loads-header.ensures.moved in
    (arrived.number, arrived.mutators)

pub returns-in_default-role_stored-clause-begun : goal.returns-in_default-role_stored-clause-begun
returns-in_default-role_stored-clause-begun c =
    let s = starts _ _ _ _ _ _ _ _ c.deref_mut-worker.ensures.value c.self.view_is (caller_ready c.self.view_is c.self.invariant) c.requires.idle c.requires.may_begin (c.looks.ensures.looks c.if-not-looks.false) c.looks.ensures.counts_nothing in
    let page = past_gate s c.looks_at_record-stage.ensures c.in-Some.ensures c.loads-gate.ensures.table.0 c.loads-gate.ensures.moved in
    let header = past_page s page c.looks_at_record-stage.ensures c.loads_header-stage.ensures (c.is_open.ensures c.if-not-is_open.false) c.loads-page.ensures.table.0 c.loads-page.ensures.moved in
    let arrived = arrives_there s header c.loads_header-stage.ensures c.load_at_header.ensures c.loads-header.ensures.table.0 c.loads-header.ensures.moved in
    arrived.begun

pub value_at-value_at-requires : goal.value_at-value_at-requires
value_at-value_at-requires c =
    let s = starts _ _ _ _ _ _ _ _ c.deref_mut-worker.ensures.value c.self.view_is (caller_ready c.self.view_is c.self.invariant) c.requires.idle c.requires.may_begin (c.looks.ensures.looks c.if-not-looks.false) c.looks.ensures.counts_nothing in
    let page = past_gate s c.looks_at_record-stage.ensures c.in-Some.ensures c.loads-gate.ensures.table.0 c.loads-gate.ensures.moved in
    let header = past_page s page c.looks_at_record-stage.ensures c.loads_header-stage.ensures (c.is_open.ensures c.if-not-is_open.false) c.loads-page.ensures.table.0 c.loads-page.ensures.moved in
    value_lies s header c.loads_header-stage.ensures c.in-Some-role_stored.ensures c.loads-header.ensures.moved

pub is_near-requires : goal.is_near-requires
is_near-requires c =
    let s = starts _ _ _ _ _ _ _ _ c.deref_mut-worker.ensures.value c.self.view_is (caller_ready c.self.view_is c.self.invariant) c.requires.idle c.requires.may_begin (c.looks.ensures.looks c.if-not-looks.false) c.looks.ensures.counts_nothing in
    let page = past_gate s c.looks_at_record-stage.ensures c.in-Some.ensures c.loads-gate.ensures.table.0 c.loads-gate.ensures.moved in
    let header = past_page s page c.looks_at_record-stage.ensures c.loads_header-stage.ensures (c.is_open.ensures c.if-not-is_open.false) c.loads-page.ensures.table.0 c.loads-page.ensures.moved in
    value_lies s header c.loads_header-stage.ensures c.in-Some-role_stored.ensures c.loads-header.ensures.moved

pub word_place-requires-then-is_near : goal.word_place-requires-then-is_near
word_place-requires-then-is_near c =
    let s = starts _ _ _ _ _ _ _ _ c.deref_mut-worker.ensures.value c.self.view_is (caller_ready c.self.view_is c.self.invariant) c.requires.idle c.requires.may_begin (c.looks.ensures.looks c.if-not-looks.false) c.looks.ensures.counts_nothing in
    let page = past_gate s c.looks_at_record-stage.ensures c.in-Some.ensures c.loads-gate.ensures.table.0 c.loads-gate.ensures.moved in
    let header = past_page s page c.looks_at_record-stage.ensures c.loads_header-stage.ensures (c.is_open.ensures c.if-not-is_open.false) c.loads-page.ensures.table.0 c.loads-page.ensures.moved in
    subst (IsHeapAddress _) (sym c.value_at-value_at.ensures) (value_lies s header c.loads_header-stage.ensures c.in-Some-role_stored.ensures c.loads-header.ensures.moved)

pub loads-word-requires-clause-ready : goal.loads-word-requires-clause-ready
loads-word-requires-clause-ready c =
    let s = starts _ _ _ _ _ _ _ _ c.deref_mut-worker.ensures.value c.self.view_is (caller_ready c.self.view_is c.self.invariant) c.requires.idle c.requires.may_begin (c.looks.ensures.looks c.if-not-looks.false) c.looks.ensures.counts_nothing in
    let page = past_gate s c.looks_at_record-stage.ensures c.in-Some.ensures c.loads-gate.ensures.table.0 c.loads-gate.ensures.moved in
    let header = past_page s page c.looks_at_record-stage.ensures c.loads_header-stage.ensures (c.is_open.ensures c.if-not-is_open.false) c.loads-page.ensures.table.0 c.loads-page.ensures.moved in
    let near = to_near_value s header c.loads_header-stage.ensures c.loads_value.ensures c.in-Some-role_stored.ensures (sym c.is_near.ensures ∙ c.if-is_near.true) c.loads-header.ensures.table.0 c.loads-header.ensures.moved in
    near.ready

pub invariant_of-self-then-is_near : goal.invariant_of-self-then-is_near
invariant_of-self-then-is_near c =
    let s = starts _ _ _ _ _ _ _ _ c.deref_mut-worker.ensures.value c.self.view_is (caller_ready c.self.view_is c.self.invariant) c.requires.idle c.requires.may_begin (c.looks.ensures.looks c.if-not-looks.false) c.looks.ensures.counts_nothing in
    let page = past_gate s c.looks_at_record-stage.ensures c.in-Some.ensures c.loads-gate.ensures.table.0 c.loads-gate.ensures.moved in
    let header = past_page s page c.looks_at_record-stage.ensures c.loads_header-stage.ensures (c.is_open.ensures c.if-not-is_open.false) c.loads-page.ensures.table.0 c.loads-page.ensures.moved in
    let near = to_near_value s header c.loads_header-stage.ensures c.loads_value.ensures c.in-Some-role_stored.ensures (sym c.is_near.ensures ∙ c.if-is_near.true) c.loads-header.ensures.table.0 c.loads-header.ensures.moved in
    let arrived = arrives_there s near c.loads_value.ensures (has_loaded s c.loads_value.ensures c.has_loaded.ensures) c.loads-word.ensures.table.0 c.loads-word.ensures.moved in
    invariant_of (c.loads-word.ensures.table.1 ∙ (c.loads-header.ensures.table.1 ∙ (c.loads-page.ensures.table.1 ∙ (c.loads-gate.ensures.table.1 ∙ c.self.invariant.0)))) arrived.ready

pub returns-then-is_near-clause-begun : goal.returns-then-is_near-clause-begun
returns-then-is_near-clause-begun c =
    let s = starts _ _ _ _ _ _ _ _ c.deref_mut-worker.ensures.value c.self.view_is (caller_ready c.self.view_is c.self.invariant) c.requires.idle c.requires.may_begin (c.looks.ensures.looks c.if-not-looks.false) c.looks.ensures.counts_nothing in
    let page = past_gate s c.looks_at_record-stage.ensures c.in-Some.ensures c.loads-gate.ensures.table.0 c.loads-gate.ensures.moved in
    let header = past_page s page c.looks_at_record-stage.ensures c.loads_header-stage.ensures (c.is_open.ensures c.if-not-is_open.false) c.loads-page.ensures.table.0 c.loads-page.ensures.moved in
    let near = to_near_value s header c.loads_header-stage.ensures c.loads_value.ensures c.in-Some-role_stored.ensures (sym c.is_near.ensures ∙ c.if-is_near.true) c.loads-header.ensures.table.0 c.loads-header.ensures.moved in
    let arrived = arrives_there s near c.loads_value.ensures (has_loaded s c.loads_value.ensures c.has_loaded.ensures) c.loads-word.ensures.table.0 c.loads-word.ensures.moved in
    arrived.begun

pub page_place-requires-2 : goal.page_place-requires-2
page_place-requires-2 c =
    let s = starts _ _ _ _ _ _ _ _ c.deref_mut-worker.ensures.value c.self.view_is (caller_ready c.self.view_is c.self.invariant) c.requires.idle c.requires.may_begin (c.looks.ensures.looks c.if-not-looks.false) c.looks.ensures.counts_nothing in
    let page = past_gate s c.looks_at_record-stage.ensures c.in-Some.ensures c.loads-gate.ensures.table.0 c.loads-gate.ensures.moved in
    let header = past_page s page c.looks_at_record-stage.ensures c.loads_header-stage.ensures (c.is_open.ensures c.if-not-is_open.false) c.loads-page.ensures.table.0 c.loads-page.ensures.moved in
    subst (IsHeapAddress _) (sym c.value_at-value_at.ensures) (value_lies s header c.loads_header-stage.ensures c.in-Some-role_stored.ensures c.loads-header.ensures.moved)

pub loads-page-requires-2-clause-ready : goal.loads-page-requires-2-clause-ready
loads-page-requires-2-clause-ready c =
    let s = starts _ _ _ _ _ _ _ _ c.deref_mut-worker.ensures.value c.self.view_is (caller_ready c.self.view_is c.self.invariant) c.requires.idle c.requires.may_begin (c.looks.ensures.looks c.if-not-looks.false) c.looks.ensures.counts_nothing in
    let page = past_gate s c.looks_at_record-stage.ensures c.in-Some.ensures c.loads-gate.ensures.table.0 c.loads-gate.ensures.moved in
    let header = past_page s page c.looks_at_record-stage.ensures c.loads_header-stage.ensures (c.is_open.ensures c.if-not-is_open.false) c.loads-page.ensures.table.0 c.loads-page.ensures.moved in
    let far = to_far_value s header c.loads_header-stage.ensures c.looks_at_value-stage.ensures c.in-Some-role_stored.ensures (sym c.is_near.ensures ∙ c.if-is_near.false) c.loads-header.ensures.table.0 c.loads-header.ensures.moved in
    far.ready

pub load_at_value_page-requires-clause-may : goal.load_at_value_page-requires-clause-may
load_at_value_page-requires-clause-may c =
    let s = starts _ _ _ _ _ _ _ _ c.deref_mut-worker.ensures.value c.self.view_is (caller_ready c.self.view_is c.self.invariant) c.requires.idle c.requires.may_begin (c.looks.ensures.looks c.if-not-looks.false) c.looks.ensures.counts_nothing in
    let page = past_gate s c.looks_at_record-stage.ensures c.in-Some.ensures c.loads-gate.ensures.table.0 c.loads-gate.ensures.moved in
    let header = past_page s page c.looks_at_record-stage.ensures c.loads_header-stage.ensures (c.is_open.ensures c.if-not-is_open.false) c.loads-page.ensures.table.0 c.loads-page.ensures.moved in
    let far = to_far_value s header c.loads_header-stage.ensures c.looks_at_value-stage.ensures c.in-Some-role_stored.ensures (sym c.is_near.ensures ∙ c.if-is_near.false) c.loads-header.ensures.table.0 c.loads-header.ensures.moved in
    may_there s far c.looks_at_value-stage.ensures c.loads-page-2.ensures.moved

pub invariant_of-self-then-not-is_open-2 : goal.invariant_of-self-then-not-is_open-2
invariant_of-self-then-not-is_open-2 c =
    let s = starts _ _ _ _ _ _ _ _ c.deref_mut-worker.ensures.value c.self.view_is (caller_ready c.self.view_is c.self.invariant) c.requires.idle c.requires.may_begin (c.looks.ensures.looks c.if-not-looks.false) c.looks.ensures.counts_nothing in
    let page = past_gate s c.looks_at_record-stage.ensures c.in-Some.ensures c.loads-gate.ensures.table.0 c.loads-gate.ensures.moved in
    let header = past_page s page c.looks_at_record-stage.ensures c.loads_header-stage.ensures (c.is_open.ensures c.if-not-is_open.false) c.loads-page.ensures.table.0 c.loads-page.ensures.moved in
    let far = to_far_value s header c.loads_header-stage.ensures c.looks_at_value-stage.ensures c.in-Some-role_stored.ensures (sym c.is_near.ensures ∙ c.if-is_near.false) c.loads-header.ensures.table.0 c.loads-header.ensures.moved in
    let arrived = arrives_there s far c.looks_at_value-stage.ensures c.load_at_value_page.ensures c.loads-page-2.ensures.table.0 c.loads-page-2.ensures.moved in
    invariant_of (c.loads-page-2.ensures.table.1 ∙ (c.loads-header.ensures.table.1 ∙ (c.loads-page.ensures.table.1 ∙ (c.loads-gate.ensures.table.1 ∙ c.self.invariant.0)))) arrived.ready

pub returns-then-not-is_open-2-clause-same : goal.returns-then-not-is_open-2-clause-same
returns-then-not-is_open-2-clause-same c =
    let s = starts _ _ _ _ _ _ _ _ c.deref_mut-worker.ensures.value c.self.view_is (caller_ready c.self.view_is c.self.invariant) c.requires.idle c.requires.may_begin (c.looks.ensures.looks c.if-not-looks.false) c.looks.ensures.counts_nothing in
    let page = past_gate s c.looks_at_record-stage.ensures c.in-Some.ensures c.loads-gate.ensures.table.0 c.loads-gate.ensures.moved in
    let header = past_page s page c.looks_at_record-stage.ensures c.loads_header-stage.ensures (c.is_open.ensures c.if-not-is_open.false) c.loads-page.ensures.table.0 c.loads-page.ensures.moved in
    let far = to_far_value s header c.loads_header-stage.ensures c.looks_at_value-stage.ensures c.in-Some-role_stored.ensures (sym c.is_near.ensures ∙ c.if-is_near.false) c.loads-header.ensures.table.0 c.loads-header.ensures.moved in
    let arrived = arrives_there s far c.looks_at_value-stage.ensures c.load_at_value_page.ensures c.loads-page-2.ensures.table.0 c.loads-page-2.ensures.moved in
    (arrived.number, arrived.mutators)

pub returns-then-not-is_open-2-clause-begun : goal.returns-then-not-is_open-2-clause-begun
returns-then-not-is_open-2-clause-begun c =
    let s = starts _ _ _ _ _ _ _ _ c.deref_mut-worker.ensures.value c.self.view_is (caller_ready c.self.view_is c.self.invariant) c.requires.idle c.requires.may_begin (c.looks.ensures.looks c.if-not-looks.false) c.looks.ensures.counts_nothing in
    let page = past_gate s c.looks_at_record-stage.ensures c.in-Some.ensures c.loads-gate.ensures.table.0 c.loads-gate.ensures.moved in
    let header = past_page s page c.looks_at_record-stage.ensures c.loads_header-stage.ensures (c.is_open.ensures c.if-not-is_open.false) c.loads-page.ensures.table.0 c.loads-page.ensures.moved in
    let far = to_far_value s header c.loads_header-stage.ensures c.looks_at_value-stage.ensures c.in-Some-role_stored.ensures (sym c.is_near.ensures ∙ c.if-is_near.false) c.loads-header.ensures.table.0 c.loads-header.ensures.moved in
    let arrived = arrives_there s far c.looks_at_value-stage.ensures c.load_at_value_page.ensures c.loads-page-2.ensures.table.0 c.loads-page-2.ensures.moved in
    arrived.begun

pub word_place-requires-2 : goal.word_place-requires-2
word_place-requires-2 c =
    let s = starts _ _ _ _ _ _ _ _ c.deref_mut-worker.ensures.value c.self.view_is (caller_ready c.self.view_is c.self.invariant) c.requires.idle c.requires.may_begin (c.looks.ensures.looks c.if-not-looks.false) c.looks.ensures.counts_nothing in
    let page = past_gate s c.looks_at_record-stage.ensures c.in-Some.ensures c.loads-gate.ensures.table.0 c.loads-gate.ensures.moved in
    let header = past_page s page c.looks_at_record-stage.ensures c.loads_header-stage.ensures (c.is_open.ensures c.if-not-is_open.false) c.loads-page.ensures.table.0 c.loads-page.ensures.moved in
    subst (IsHeapAddress _) (sym c.value_at-value_at.ensures) (value_lies s header c.loads_header-stage.ensures c.in-Some-role_stored.ensures c.loads-header.ensures.moved)

pub loads-word-requires-2-clause-ready : goal.loads-word-requires-2-clause-ready
loads-word-requires-2-clause-ready c =
    let s = starts _ _ _ _ _ _ _ _ c.deref_mut-worker.ensures.value c.self.view_is (caller_ready c.self.view_is c.self.invariant) c.requires.idle c.requires.may_begin (c.looks.ensures.looks c.if-not-looks.false) c.looks.ensures.counts_nothing in
    let page = past_gate s c.looks_at_record-stage.ensures c.in-Some.ensures c.loads-gate.ensures.table.0 c.loads-gate.ensures.moved in
    let header = past_page s page c.looks_at_record-stage.ensures c.loads_header-stage.ensures (c.is_open.ensures c.if-not-is_open.false) c.loads-page.ensures.table.0 c.loads-page.ensures.moved in
    let far = to_far_value s header c.loads_header-stage.ensures c.looks_at_value-stage.ensures c.in-Some-role_stored.ensures (sym c.is_near.ensures ∙ c.if-is_near.false) c.loads-header.ensures.table.0 c.loads-header.ensures.moved in
    let last = past_value_page s far c.looks_at_value-stage.ensures c.loads_value.ensures c.value_at-value_at.ensures (c.is_open-2.ensures c.if-not-is_open-2.false) c.loads-page-2.ensures.table.0 c.loads-page-2.ensures.moved in
    last.ready

pub invariant_of-self-2 : goal.invariant_of-self-2
invariant_of-self-2 c =
    let s = starts _ _ _ _ _ _ _ _ c.deref_mut-worker.ensures.value c.self.view_is (caller_ready c.self.view_is c.self.invariant) c.requires.idle c.requires.may_begin (c.looks.ensures.looks c.if-not-looks.false) c.looks.ensures.counts_nothing in
    let page = past_gate s c.looks_at_record-stage.ensures c.in-Some.ensures c.loads-gate.ensures.table.0 c.loads-gate.ensures.moved in
    let header = past_page s page c.looks_at_record-stage.ensures c.loads_header-stage.ensures (c.is_open.ensures c.if-not-is_open.false) c.loads-page.ensures.table.0 c.loads-page.ensures.moved in
    let far = to_far_value s header c.loads_header-stage.ensures c.looks_at_value-stage.ensures c.in-Some-role_stored.ensures (sym c.is_near.ensures ∙ c.if-is_near.false) c.loads-header.ensures.table.0 c.loads-header.ensures.moved in
    let last = past_value_page s far c.looks_at_value-stage.ensures c.loads_value.ensures c.value_at-value_at.ensures (c.is_open-2.ensures c.if-not-is_open-2.false) c.loads-page-2.ensures.table.0 c.loads-page-2.ensures.moved in
    let arrived = arrives_there s last c.loads_value.ensures (has_loaded s c.loads_value.ensures c.has_loaded-2.ensures) c.loads-word-2.ensures.table.0 c.loads-word-2.ensures.moved in
    invariant_of (c.loads-word-2.ensures.table.1 ∙ (c.loads-page-2.ensures.table.1 ∙ (c.loads-header.ensures.table.1 ∙ (c.loads-page.ensures.table.1 ∙ (c.loads-gate.ensures.table.1 ∙ c.self.invariant.0))))) arrived.ready

pub returns-clause-begun : goal.returns-clause-begun
returns-clause-begun c =
    let s = starts _ _ _ _ _ _ _ _ c.deref_mut-worker.ensures.value c.self.view_is (caller_ready c.self.view_is c.self.invariant) c.requires.idle c.requires.may_begin (c.looks.ensures.looks c.if-not-looks.false) c.looks.ensures.counts_nothing in
    let page = past_gate s c.looks_at_record-stage.ensures c.in-Some.ensures c.loads-gate.ensures.table.0 c.loads-gate.ensures.moved in
    let header = past_page s page c.looks_at_record-stage.ensures c.loads_header-stage.ensures (c.is_open.ensures c.if-not-is_open.false) c.loads-page.ensures.table.0 c.loads-page.ensures.moved in
    let far = to_far_value s header c.loads_header-stage.ensures c.looks_at_value-stage.ensures c.in-Some-role_stored.ensures (sym c.is_near.ensures ∙ c.if-is_near.false) c.loads-header.ensures.table.0 c.loads-header.ensures.moved in
    let last = past_value_page s far c.looks_at_value-stage.ensures c.loads_value.ensures c.value_at-value_at.ensures (c.is_open-2.ensures c.if-not-is_open-2.false) c.loads-page-2.ensures.table.0 c.loads-page-2.ensures.moved in
    let arrived = arrives_there s last c.loads_value.ensures (has_loaded s c.loads_value.ensures c.has_loaded-2.ensures) c.loads-word-2.ensures.table.0 c.loads-word-2.ensures.moved in
    arrived.begun
