use Rattle.std.proofs.Common.{◌≡◌, ◌+◌, ◌-◌, ◌/◌, arith}
use Rattle.tree.proofs.Counting.{aside_none, aside_then}
use Rattle.tree.proofs.Exact.{turn, walk_start, walk_turn, walk_end, told_start, told_turn, told_end}
use Rattle.tree.proofs.Tops.{come_first, come_last, come_left, top_free, top_room, next_come}
use Rattle.tree.proofs.table.Tree.fill.Goals as goal

pub loop-top-init : goal.loop-top-init
loop-top-init g c =
    let b = c.first_block-top.ensures in
    record {
      tree = come_first _ _ _ _ c.args.pages.some _ c.sound.ensures b;
      exact = walk_start 4096 _ _ _ _ _ b;
      told = told_start 4096 _ _ _ _ g.C.Counter.steps _ _ _ b;
      counted = c.requires.tallied.held;
      idle = c.requires.tallied.idle;
      aside = aside_none _;
    }

pub fill_top-requires-clause-free : goal.fill_top-requires-clause-free
fill_top-requires-clause-free g c =
    top_free _ _ _ _ _ _ _ _ c.args.pages.small c.requires.free c.requires.room (omega arith) (omega arith) c.args.pages.some
    c.in_block.ensures.first c.in_block.ensures.last c.loop-top.invariant.tree

pub fill_top-requires-clause-room : goal.fill_top-requires-clause-room
fill_top-requires-clause-room g c =
    top_room _ _ _ _ _ _ _ _ c.args.pages.small c.requires.free c.requires.room (omega arith) (omega arith) c.args.pages.some
    c.in_block.ensures.first c.in_block.ensures.last c.loop-top.invariant.tree

pub loop-top-preserved : goal.loop-top-preserved
loop-top-preserved g c =
    let i = c.loop-top.invariant in
    let part = c.in_block.ensures in
    let b = c.fill_top.ensures in
    let t = turn 4096 _ _ _ _ _ (omega arith) part.first part.last in
    record {
      tree = next_come _ _ _ _ _ _ _ _ c.args.pages.small c.requires.free c.requires.room (omega arith) (omega arith) c.args.pages.some part.first part.last i.tree _ b.filled b.left b.others;
      exact = walk_turn 4096 _ _ _ _ _ _ _ _ _ t i.exact b.exact;
      told = told_turn 4096 _ _ _ _ g.C.Counter.steps _ _ _ _ _ _ _ _ t i.exact i.told b.told;
      counted = b.counted;
      idle = b.idle;
      aside = aside_then _ _ _ i.aside b.aside;
    }

pub returns : goal.returns
returns g c =
    let i = c.loop-top.invariant in
    let end : c.loop-top.top ≡ (c.args.pages.last - 1) / 4096 + 1 = omega arith in
    let u = come_last _ _ _ _ c.args.pages.some _ _ end i.tree in
    record {
      exact = walk_end 4096 _ _ _ _ _ _ c.args.pages.some end i.exact;
      told = told_end 4096 _ _ _ _ g.C.Counter.steps _ _ _ _ c.args.pages.some end i.told;
      filled = u.filled;
      left = come_left _ _ _ _ _ u;
      tallied = record { held = i.counted; idle = i.idle };
      aside = i.aside;
    }
