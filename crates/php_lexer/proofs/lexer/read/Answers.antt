use Rattle.std.proofs.Common.{◌≡◌, ℕ, ◌+◌, List, take, drop, Some, None, IsTrue, sym, subst, ap, ◌∙◌}
use Rattle.php_tree.specs.declared.token.TokenKind.TheVariants.{End}
use Rattle.php_spellings.specs.Words.{token_of}
use Rattle.php_lexer.specs.Modes.{IsLongest, HasNone}
use Rattle.php_lexer.specs.Views.{mode_of, token_cut, IsStepped}
use Rattle.php_lexer.proofs.Fronts.{front_trivia, front_token, front_ends, front_stops, front_open, meets_stop}
use Rattle.php_lexer.proofs.MarksRead.{tokens_in, cut_is, one_more, all_more}
use Rattle.php_lexer.proofs.ModeStepLemmas.{stayed}
use Rattle.php_lexer.proofs.lexer.read.Goals as goal
use Rattle.php_lexer.proofs.lexer.read.Goals.{then-not-stays+in_ok-mode-in-Some, else-not-stays, in-None-token_kind, in-Some-token_kind+in_ok-push-in-Some-token_kind}

pub returns-in-None : goal.returns-in-None
returns-in-None c =
    let none = subst (λ (u : List ℕ). HasNone c.args.version (mode_of c.args.bytes.now c.loop-at.mode) u) c.split_at.ensures.back c.in-None.ensures.none in
    let stop = front_stops c.args.version c.args.bytes.now (tokens_in c.args.bytes.now c.loop-at.marks.items)
    c.loop-at.mode c.loop-at.below.items c.loop-at.opens.items c.loop-at.lead c.loop-at.at c.loop-at.invariant.0
    c.loop-at-test.true none in
    meets_stop c.args.version c.args.bytes.now c.fault_here.result (rw (c.fault_here.ensures, c.split_at.ensures.back) stop)

pub loop-at-preserved : goal.loop-at-preserved
loop-at-preserved c =
    let v = c.args.version in
    let bytes = c.args.bytes.now in
    let found = subst (λ (u : List ℕ). IsLongest v (mode_of bytes c.loop-at.mode) u c.in-Some.kind c.in-Some.len) c.split_at.ensures.back c.in-Some.ensures.found in
    let text : c.split_at-in-Some.result.0.now ≡ take c.in-Some.len (drop c.loop-at.at bytes) =
    c.split_at-in-Some.ensures.front ∙ ap (λ (u : List ℕ). take c.in-Some.len u) c.split_at.ensures.back in
    let moved : IsStepped v bytes c.loop-at.mode c.in-Some.kind c.loop-at.at c.in-Some.len c.loop-at.below.items
    c.if-not-stays.mode c.if-not-stays.below.items c.loop-at.opens.items c.if-not-stays.opens.items =
    elim c.if-not-stays.branch [
      | then-not-stays+in_ok-mode-in-Some w ↦ rw (w.mode-is, w.below-is, w.opens-is) w.in_ok-mode-in-Some.ensures
      | else-not-stays w ↦
          let yes : IsTrue c.stays.result = w.if-not-stays.false in
          rw (w.mode-is, w.below-is, w.opens-is)
          (stayed v bytes c.loop-at.mode c.in-Some.kind c.loop-at.at c.in-Some.len c.loop-at.below.items
          c.loop-at.opens.items c.split_at-in-Some.result.0.now text (c.stays.ensures.mode yes)
          (c.stays.ensures.mode_step yes))
    ] in
    elim c.match-token_kind.branch [
      | in-None-token_kind w ↦
          let blank : token_of c.in-Some.kind (take c.in-Some.len (drop c.loop-at.at bytes)) ≡ None =
          ap (λ (u : List ℕ). token_of c.in-Some.kind u) (sym text) ∙ sym w.in-None-token_kind.ensures in
          rw (w.marks-is, w.lead-is) (
            front_trivia v bytes (tokens_in bytes c.loop-at.marks.items) c.loop-at.mode
                c.loop-at.below.items c.loop-at.opens.items c.loop-at.lead c.loop-at.at c.loop-at.invariant.0
                c.in-Some.kind c.in-Some.len moved.mode_step c.if-not-stays.mode c.if-not-stays.below.items
                c.if-not-stays.opens.items found moved.seen moved.after moved.noted blank,
            c.loop-at.invariant.1,
          )
      | in-Some-token_kind+in_ok-push-in-Some-token_kind w ↦
          let solid : token_of c.in-Some.kind (take c.in-Some.len (drop c.loop-at.at bytes)) ≡ Some
          w.in-Some-token_kind.kind = ap (λ (u : List ℕ). token_of c.in-Some.kind u) (sym text)
          ∙ sym w.in-Some-token_kind.ensures in
          let m = w.mark_at-mark in
          let cut = cut_is bytes m.result w.in-Some-token_kind.kind c.loop-at.lead c.loop-at.at
          (c.loop-at.at + c.in-Some.len) m.ensures.kind m.ensures.lead m.ensures.start m.ensures.end in
          rw (w.marks-is, w.lead-is) (
            front_token v bytes (tokens_in bytes c.loop-at.marks.items) c.loop-at.mode
                c.loop-at.below.items c.loop-at.opens.items c.loop-at.lead c.loop-at.at c.loop-at.invariant.0
                c.in-Some.kind c.in-Some.len moved.mode_step c.if-not-stays.mode c.if-not-stays.below.items
                c.if-not-stays.opens.items found moved.seen moved.after moved.noted w.in-Some-token_kind.kind solid
                (tokens_in bytes w.push.new.marks.items)
                (one_more bytes c.loop-at.marks.items w.push.new.marks.items m.result
                (token_cut bytes w.in-Some-token_kind.kind c.loop-at.lead c.loop-at.at (c.loop-at.at + c.in-Some.len))
                w.in_ok-push-in-Some-token_kind.ensures cut),
            all_more bytes c.loop-at.marks.items
                w.push.new.marks.items m.result w.in_ok-push-in-Some-token_kind.ensures c.loop-at.invariant.1
                m.ensures.mark,
          )
    ]

pub returns-in-Some-innermost : goal.returns-in-Some-innermost
returns-in-Some-innermost c =
    meets_stop c.args.version c.args.bytes.now c.in-Some-innermost.fault
    (front_open c.args.version c.args.bytes.now (tokens_in c.args.bytes.now c.loop-at.marks.items) c.loop-at.mode
    c.loop-at.below.items c.loop-at.opens.items c.loop-at.lead c.loop-at.at c.loop-at.invariant.0
    c.in-Some-innermost.fault c.loop-at-test.false c.in-Some-innermost.ensures)

pub returns : goal.returns
returns c =
    let bytes = c.args.bytes.now in
    let m = c.mark_at-end in
    let cut = cut_is bytes m.result End c.loop-at.lead c.loop-at.at c.loop-at.at m.ensures.kind m.ensures.lead m.ensures.start m.ensures.end in (
      front_ends c.args.version bytes (tokens_in bytes c.loop-at.marks.items) c.loop-at.mode c.loop-at.below.items
          c.loop-at.opens.items c.loop-at.lead c.loop-at.at c.loop-at.invariant.0
          (tokens_in bytes c.push-2.new.marks.items) c.loop-at-test.false c.in-None-innermost.ensures
          (one_more bytes c.loop-at.marks.items c.push-2.new.marks.items m.result
          (token_cut bytes End c.loop-at.lead c.loop-at.at c.loop-at.at) c.in_ok-push.ensures cut),
      all_more bytes c.loop-at.marks.items c.push-2.new.marks.items m.result c.in_ok-push.ensures
          c.loop-at.invariant.1 m.ensures.mark,
    )
