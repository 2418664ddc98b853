use Rattle.std.proofs.Common.{◌≡◌, ℕ, ◌+◌, ◌-◌, ◌/◌, refl, ◌∙◌, subst, arith}
use Rattle.tree.specs.Walks.{Goes}
use Rattle.tree.proofs.Counting.{aside_none, aside_then}
use Rattle.tree.proofs.Exact.{turn, walk_start, walk_turn, walk_end, told_start, told_turn, told_end}
use Rattle.tree.proofs.Middles.{under_first, under_last, under_left, goes_first, path_now, free_now, room_now, next_under, next_goes}
use Rattle.tree.proofs.table.Tree.fill_middle.Goals as goal

pub loop-block-init : goal.loop-block-init
loop-block-init g c =
    let b = c.first_block-block.ensures in
    record {
      tree = under_first _ _ _ _ _ c.args.pages.some _ c.sound.ensures b;
      goes = goes_first _ _ _ c.args.e _ c.args.pages.some _ b;
      exact = walk_start 64 _ _ _ _ _ b;
      told = told_start 64 _ _ _ _ g.C.Counter.steps _ _ _ b;
      counted = c.requires.counted;
      idle = c.requires.idle;
      aside = aside_none _;
      quiet = λ _. refl;
    }

pub fill_block-requires-clause-path : goal.fill_block-requires-clause-path
fill_block-requires-clause-path g c =
    path_now _ _ _ _ _ _ _ _ _ c.args.pages.small c.requires.block c.requires.path c.requires.free c.requires.room (omega arith) (omega arith) c.args.pages.some
    c.in_block.ensures.first c.in_block.ensures.last c.loop-block.invariant.tree

pub fill_block-requires-clause-free : goal.fill_block-requires-clause-free
fill_block-requires-clause-free g c =
    free_now _ _ _ _ _ _ _ _ _ c.args.pages.small c.requires.block c.requires.path c.requires.free c.requires.room (omega arith) (omega arith) c.args.pages.some
    c.in_block.ensures.first c.in_block.ensures.last c.loop-block.invariant.tree

pub fill_block-requires-clause-room : goal.fill_block-requires-clause-room
fill_block-requires-clause-room g c =
    room_now _ _ _ _ _ _ _ _ _ c.args.pages.small c.requires.block c.requires.path c.requires.free c.requires.room (omega arith) (omega arith) c.args.pages.some
    c.in_block.ensures.first c.in_block.ensures.last c.loop-block.invariant.tree

pub loop-block-preserved : goal.loop-block-preserved
loop-block-preserved g c =
    let i = c.loop-block.invariant in
    let part = c.in_block.ensures in
    let b = c.fill_block.ensures in
    let t = turn 64 _ _ _ _ _ (omega arith) part.first part.last in
    record {
      tree = next_under _ _ _ _ _ _ _ _ _ c.args.pages.small c.requires.block c.requires.path c.requires.free c.requires.room (omega arith) (omega arith) c.args.pages.some part.first part.last i.tree _ b.filled b.left b.others;
      goes = next_goes _ _ _ _ _ _ _ _ _ c.args.pages.small c.requires.block c.requires.path c.requires.free c.requires.room (omega arith) (omega arith) c.args.pages.some part.first part.last i.tree _ b.filled b.left b.others i.goes b.gained;
      exact = walk_turn 64 _ _ _ _ _ _ _ _ _ t i.exact b.exact;
      told = told_turn 64 _ _ _ _ g.C.Counter.steps _ _ _ _ _ _ _ _ t i.exact i.told b.told;
      counted = b.counted;
      idle = b.idle;
      aside = aside_then _ _ _ i.aside b.aside;
      quiet = λ o. b.quiet o ∙ i.quiet o;
    }

pub returns : goal.returns
returns g c =
    let i = c.loop-block.invariant in
    let end : c.loop-block.block ≡ (c.args.pages.last - 1) / 64 + 1 = omega arith in
    let u = under_last _ _ _ _ _ c.args.pages.some _ _ end i.tree in
    record {
      exact = walk_end 64 _ _ _ _ _ _ c.args.pages.some end i.exact;
      told = told_end 64 _ _ _ _ g.C.Counter.steps _ _ _ _ c.args.pages.some end i.told;
      filled = u.filled;
      left = under_left _ _ _ _ _ _ u;
      others = u.others;
      counted = i.counted;
      idle = i.idle;
      aside = i.aside;
      quiet = i.quiet;
      goes = subst (λ (b : ℕ). Goes c.args.m c.args.pages.first c.args.pages.last b c.args.self.now c.loop-block.self) end i.goes;
    }
