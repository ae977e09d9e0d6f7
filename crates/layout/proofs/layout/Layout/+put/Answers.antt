-- What `put` needs beyond what the search finds.
use Rattle.std.proofs.Common.{vec_items, refl, ◌∙◌, mul-zero, arith}
use Rattle.std.proofs.lemmas.Nat.{mul-le}
use Rattle.std.proofs.lemmas.Result.{on_ok_weaker}
use Rattle.layout.specs.Limits.{max_number}
use Rattle.layout.proofs.Pieces.{piece_is, piece-small}
use Rattle.layout.proofs.Written.{tail-starts, tail_within, tail_within, row-some, column-some, mild-of, put-none, put_some, put-done}
use Rattle.layout.proofs.layout.Layout.+put.Goals as goal

pub returns-then-self-n-eq0 : goal.returns-then-self-n-eq0
returns-then-self-n-eq0 t c = put-none _ c.args.self.now.nodes.sound c.args.n c.requires _ c.args.self.now.counted c.if-self-n-eq0.true _

pub change_tail-requires : goal.change_tail-requires
change_tail-requires t c =
    let m = c.in-Changed.ensures.modest in
    let at = c.len-start.ensures ∙ c.args.out.now.ok.0 in
    let added = c.in_ok-put-in-Changed.ensures in
    record {
      start = omega (arith, tail-starts _ _ _ c.len-start.result at added, c.put-in-Changed.new.out.ok.0);
      within = tail_within _ _ _ c.len-start.result at added (piece-small _ c.args.self.now.nodes.sound c.in-Changed.of (omega arith));
      mild = mild-of c.in-Changed.by m.1;
    }

pub copy_tail-requires : goal.copy_tail-requires
copy_tail-requires t c =
    let r = c.in-Row.ensures in
    let m = r.modest in
    let at = c.len-start.ensures ∙ c.args.out.now.ok.0 in
    let added = c.in_ok-put-in-Row.ensures in
    record {
      start = omega (arith, tail-starts _ _ _ c.len-start.result at added, c.put-in-Row.new.out.ok.0);
      some = row-some c.in-Row.many c.in-Row.far _ (put_some _ c.args.self.now.nodes.sound c.args.n c.requires _ c.args.self.now.counted c.if-self-n-eq0.false _ (piece_is _ c.args.self.now.nodes.sound c.args.n c.requires _ r));
      within = tail_within _ _ _ c.len-start.result at added (piece-small _ c.args.self.now.nodes.sound c.in-Row.of (omega arith));
      mild = (omega (arith, mul-le c.in-Row.many c.in-Row.far max_number max_number m.1 m.2), omega (arith, mul-zero c.in-Row.many));
    }

pub copy_tail-requires-in-Column : goal.copy_tail-requires-in-Column
copy_tail-requires-in-Column t c =
    let r = c.in-Column.ensures in
    let m = r.modest in
    let at = c.len-start.ensures ∙ c.args.out.now.ok.0 in
    let added = c.in_ok-put-in-Column.ensures in
    record {
      start = omega (arith, tail-starts _ _ _ c.len-start.result at added, c.put-in-Column.new.out.ok.0);
      some = column-some c.in-Column.many c.in-Column.far _ (put_some _ c.args.self.now.nodes.sound c.args.n c.requires _ c.args.self.now.counted c.if-self-n-eq0.false _ (piece_is _ c.args.self.now.nodes.sound c.args.n c.requires _ r));
      within = tail_within _ _ _ c.len-start.result at added (piece-small _ c.args.self.now.nodes.sound c.in-Column.of (omega arith));
      mild = (omega (arith, mul-zero c.in-Column.many), omega (arith, mul-le c.in-Column.many c.in-Column.far max_number max_number m.1 m.2));
    }

pub returns-in-Nothing : goal.returns-in-Nothing
returns-in-Nothing t c = put-done _ c.args.self.now.nodes.sound c.args.n c.requires (vec_items c.args.out.now) c.len-start.result (c.len-start.ensures ∙ c.args.out.now.ok.0) _ c.in-Nothing.ensures (vec_items c.args.out.now) _ (refl)

pub returns-in_ok-push-in-One : goal.returns-in_ok-push-in-One
returns-in_ok-push-in-One t c = put-done _ c.args.self.now.nodes.sound c.args.n c.requires (vec_items c.args.out.now) c.len-start.result (c.len-start.ensures ∙ c.args.out.now.ok.0) _ c.in-One.ensures (vec_items c.args.out.now) _ c.in_ok-push-in-One.ensures.items

pub returns-in_ok-put-in-Both : goal.returns-in_ok-put-in-Both
returns-in_ok-put-in-Both t c = on_ok_weaker c.put-in-Both.result (λ e. put-done _ c.args.self.now.nodes.sound c.args.n c.requires (vec_items c.args.out.now) c.len-start.result (c.len-start.ensures ∙ c.args.out.now.ok.0) _ c.in-Both.ensures _ _ ((c.in_ok-put-in-Both.ensures, e))) c.put-in-Both.ensures

pub returns-in_ok-put-in-Changed : goal.returns-in_ok-put-in-Changed
returns-in_ok-put-in-Changed t c = put-done _ c.args.self.now.nodes.sound c.args.n c.requires (vec_items c.args.out.now) c.len-start.result (c.len-start.ensures ∙ c.args.out.now.ok.0) _ c.in-Changed.ensures _ _ ((c.in_ok-put-in-Changed.ensures, c.change_tail.ensures))

pub returns-in_ok-put-in-Row : goal.returns-in_ok-put-in-Row
returns-in_ok-put-in-Row t c = on_ok_weaker c.copy_tail.result (λ e. put-done _ c.args.self.now.nodes.sound c.args.n c.requires (vec_items c.args.out.now) c.len-start.result (c.len-start.ensures ∙ c.args.out.now.ok.0) _ c.in-Row.ensures _ _ ((c.in_ok-put-in-Row.ensures, e))) c.copy_tail.ensures

pub returns-in_ok-put-in-Column : goal.returns-in_ok-put-in-Column
returns-in_ok-put-in-Column t c = on_ok_weaker c.copy_tail-in-Column.result (λ e. put-done _ c.args.self.now.nodes.sound c.args.n c.requires (vec_items c.args.out.now) c.len-start.result (c.len-start.ensures ∙ c.args.out.now.ok.0) _ c.in-Column.ensures _ _ ((c.in_ok-put-in-Column.ensures, e))) c.copy_tail-in-Column.ensures
