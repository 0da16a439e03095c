use Rattle.std.proofs.Common.{List, Option, sym, subst, arith, false}
use Rattle.std.proofs.lemmas.List.{with_items_is}
use Rattle.lane_items.specs.declared.item.Item.{Item}
use Rattle.bus_segment.specs.Ends.{ReceivesOne}
use Rattle.bus_segment.specs.Turn.{Does, Takes}
use Rattle.bus_segment.specs.Steps.{StampsRise, NothingCame}
use Rattle.bus_segment.proofs.TakeLemmas.{received_nothing, received_does}
use Rattle.bus_segment.proofs.StepLemmas.{nothing_stamps, nothing_came, takes_stamps, takes_most, takes_recorded}
use Rattle.bus_segment.proofs.segment.Segment.receive.Goals as goal

pub returns-in-None-clause-does : goal.returns-in-None-clause-does
returns-in-None-clause-does g c =
    let E = g.L.LaneEnd in
    let End : Type 0 = g.row.L.Denot in
    let items = with_items_is c.args.self.now.ends c.receive_at.new.ends (omega arith) in
    let R : List End → Option Item → Type 0 = λ old item. ReceivesOne {End = End} E.had E.sent E.got E.kept E.paired c.args.place old item c.receive_at.new.ends in
    let received = subst (λ item. R c.args.self.now.ends.items item) c.in-None.is (subst (λ old. R old c.receive_at.result) c.as_mut_slice.ensures.value c.receive_at.ensures) in
    subst (λ (after : List End). Does {End = End} E.had E.sent E.got E.kept E.paired c.args.board.now (record { bus = c.args.self.now.bus; stamp = c.args.self.now.stamp; stopped = false })
    (record { bus = c.args.self.now.bus; stamp = c.args.self.now.stamp; stopped = c.args.self.now.stopped }) c.args.self.now.ends.items after c.args.self.now.events.items c.args.self.now.events.items) (sym items)
    (received_nothing {End = End} E.had E.sent E.got E.kept E.paired c.args.board.now c.args.place c.args.self.now.bus c.args.self.now.stamp c.args.self.now.stopped c.args.self.now.ends.items c.receive_at.new.ends c.args.self.now.events.items c.requires.goes received)

pub returns-in-Some-clause-does : goal.returns-in-Some-clause-does
returns-in-Some-clause-does g c =
    let E = g.L.LaneEnd in
    let End : Type 0 = g.row.L.Denot in
    let items = with_items_is c.args.self.now.ends c.receive_at.new.ends (omega arith) in
    let R : List End → Option Item → Type 0 = λ old item. ReceivesOne {End = End} E.had E.sent E.got E.kept E.paired c.args.place old item c.receive_at.new.ends in
    let received = subst (λ item. R c.args.self.now.ends.items item) c.in-Some.is (subst (λ old. R old c.receive_at.result) c.as_mut_slice.ensures.value c.receive_at.ensures) in
    let takes = subst (λ (mid : List End). Takes {End = End} E.had E.sent E.got E.kept E.paired c.args.board.now c.args.place c.in-Some.item (record { bus = c.args.self.now.bus; stamp = c.args.self.now.stamp; stopped = false }) mid c.args.self.now.events.items
    (record { bus = c.take.new.self.bus; stamp = c.take.new.self.stamp; stopped = c.take.new.self.stopped }) c.take.new.self.ends.items c.take.new.self.events.items) items c.take.ensures.takes in
    received_does {End = End} E.had E.sent E.got E.kept E.paired c.args.board.now c.args.place c.in-Some.item c.args.self.now.bus c.take.new.self.bus c.args.self.now.stamp c.take.new.self.stamp c.take.new.self.stopped
    c.args.self.now.ends.items c.receive_at.new.ends c.take.new.self.ends.items c.args.self.now.events.items c.take.new.self.events.items c.take.ensures.shape received c.requires.valid c.requires.ends takes

pub returns-in-None-clause-stamps : goal.returns-in-None-clause-stamps
returns-in-None-clause-stamps g c =
    let E = g.L.LaneEnd in
    let End : Type 0 = g.row.L.Denot in
    let items = with_items_is c.args.self.now.ends c.receive_at.new.ends (omega arith) in
    let R : List End → Option Item → Type 0 = λ old item. ReceivesOne {End = End} E.had E.sent E.got E.kept E.paired c.args.place old item c.receive_at.new.ends in
    let received = subst (λ item. R c.args.self.now.ends.items item) c.in-None.is (subst (λ old. R old c.receive_at.result) c.as_mut_slice.ensures.value c.receive_at.ensures) in
    subst (λ (after : List End). StampsRise {End = End} E.sent E.got c.args.self.now.stamp c.args.self.now.stamp c.args.self.now.ends.items after) (sym items)
    (nothing_stamps {End = End} E.had E.sent E.got E.kept E.paired c.args.place c.args.self.now.ends.items c.receive_at.new.ends c.args.self.now.stamp received)

pub returns-in-None-clause-nothing : goal.returns-in-None-clause-nothing
returns-in-None-clause-nothing g c = λ none.
    let E = g.L.LaneEnd in
    let End : Type 0 = g.row.L.Denot in
    let items = with_items_is c.args.self.now.ends c.receive_at.new.ends (omega arith) in
    let R : List End → Option Item → Type 0 = λ old item. ReceivesOne {End = End} E.had E.sent E.got E.kept E.paired c.args.place old item c.receive_at.new.ends in
    let received = subst (λ item. R c.args.self.now.ends.items item) c.in-None.is (subst (λ old. R old c.receive_at.result) c.as_mut_slice.ensures.value c.receive_at.ensures) in
    subst (λ (after : List End). NothingCame {End = End} E.had E.got c.args.place c.args.self.now.ends.items after) (sym items)
    (nothing_came {End = End} E.had E.sent E.got E.kept E.paired c.args.place c.args.self.now.ends.items c.receive_at.new.ends received)

pub returns-in-Some-clause-stamps : goal.returns-in-Some-clause-stamps
returns-in-Some-clause-stamps g c =
    let E = g.L.LaneEnd in
    let End : Type 0 = g.row.L.Denot in
    let items = with_items_is c.args.self.now.ends c.receive_at.new.ends (omega arith) in
    let R : List End → Option Item → Type 0 = λ old item. ReceivesOne {End = End} E.had E.sent E.got E.kept E.paired c.args.place old item c.receive_at.new.ends in
    let received = subst (λ item. R c.args.self.now.ends.items item) c.in-Some.is (subst (λ old. R old c.receive_at.result) c.as_mut_slice.ensures.value c.receive_at.ensures) in
    let takes = subst (λ (mid : List End). Takes {End = End} E.had E.sent E.got E.kept E.paired c.args.board.now c.args.place c.in-Some.item (record { bus = c.args.self.now.bus; stamp = c.args.self.now.stamp; stopped = false }) mid c.args.self.now.events.items
    (record { bus = c.take.new.self.bus; stamp = c.take.new.self.stamp; stopped = c.take.new.self.stopped }) c.take.new.self.ends.items c.take.new.self.events.items) items c.take.ensures.takes in
    takes_stamps {End = End} E.had E.sent E.got E.kept E.paired c.args.place c.args.self.now.ends.items c.receive_at.new.ends c.in-Some.item c.args.board.now (record { bus = c.args.self.now.bus; stamp = c.args.self.now.stamp; stopped = false })
    (record { bus = c.take.new.self.bus; stamp = c.take.new.self.stamp; stopped = c.take.new.self.stopped }) c.take.new.self.ends.items c.args.self.now.events.items c.take.new.self.events.items received takes

pub returns-in-Some-clause-most : goal.returns-in-Some-clause-most
returns-in-Some-clause-most g c =
    let E = g.L.LaneEnd in
    let End : Type 0 = g.row.L.Denot in
    let items = with_items_is c.args.self.now.ends c.receive_at.new.ends (omega arith) in
    let R : List End → Option Item → Type 0 = λ old item. ReceivesOne {End = End} E.had E.sent E.got E.kept E.paired c.args.place old item c.receive_at.new.ends in
    let received = subst (λ item. R c.args.self.now.ends.items item) c.in-Some.is (subst (λ old. R old c.receive_at.result) c.as_mut_slice.ensures.value c.receive_at.ensures) in
    let takes = subst (λ (mid : List End). Takes {End = End} E.had E.sent E.got E.kept E.paired c.args.board.now c.args.place c.in-Some.item (record { bus = c.args.self.now.bus; stamp = c.args.self.now.stamp; stopped = false }) mid c.args.self.now.events.items
    (record { bus = c.take.new.self.bus; stamp = c.take.new.self.stamp; stopped = c.take.new.self.stopped }) c.take.new.self.ends.items c.take.new.self.events.items) items c.take.ensures.takes in
    takes_most {End = End} E.had E.sent E.got E.kept E.paired c.args.place c.args.self.now.ends.items c.receive_at.new.ends c.in-Some.item c.args.board.now (record { bus = c.args.self.now.bus; stamp = c.args.self.now.stamp; stopped = false })
    (record { bus = c.take.new.self.bus; stamp = c.take.new.self.stamp; stopped = c.take.new.self.stopped }) c.take.new.self.ends.items c.args.self.now.events.items c.take.new.self.events.items received takes

pub returns-in-Some-clause-recorded : goal.returns-in-Some-clause-recorded
returns-in-Some-clause-recorded g c = λ some on.
    let E = g.L.LaneEnd in
    let End : Type 0 = g.row.L.Denot in
    let items = with_items_is c.args.self.now.ends c.receive_at.new.ends (omega arith) in
    let R : List End → Option Item → Type 0 = λ old item. ReceivesOne {End = End} E.had E.sent E.got E.kept E.paired c.args.place old item c.receive_at.new.ends in
    let received = subst (λ item. R c.args.self.now.ends.items item) c.in-Some.is (subst (λ old. R old c.receive_at.result) c.as_mut_slice.ensures.value c.receive_at.ensures) in
    let takes = subst (λ (mid : List End). Takes {End = End} E.had E.sent E.got E.kept E.paired c.args.board.now c.args.place c.in-Some.item (record { bus = c.args.self.now.bus; stamp = c.args.self.now.stamp; stopped = false }) mid c.args.self.now.events.items
    (record { bus = c.take.new.self.bus; stamp = c.take.new.self.stamp; stopped = c.take.new.self.stopped }) c.take.new.self.ends.items c.take.new.self.events.items) items c.take.ensures.takes in
    takes_recorded {End = End} E.had E.sent E.got E.kept E.paired c.args.place c.args.self.now.ends.items c.receive_at.new.ends c.in-Some.item c.args.board.now (record { bus = c.args.self.now.bus; stamp = c.args.self.now.stamp; stopped = false })
    (record { bus = c.take.new.self.bus; stamp = c.take.new.self.stamp; stopped = c.take.new.self.stopped }) c.take.new.self.ends.items c.args.self.now.events.items c.take.new.self.events.items received takes on
