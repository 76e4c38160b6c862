-- The laws of packets that go along the paths of their flows.
use Rattle.mr_moves.specs.Laws.{ChainsAreOnce, MovesKeep, PartsKeep, NumbersPlace}
use Rattle.mr_moves.proofs.Chains.{chain_once}
use Rattle.mr_moves.proofs.Moving.{moves_keep, placed, numbered, numbered_once}
use Rattle.mr_moves.proofs.Lifting.{lifts_all}

pub chains_are_once : {A : Type 0} → ChainsAreOnce A
chains_are_once next places h = chain_once next places h

pub moves_keep_order : {A F P : Type 0} → MovesKeep A F P
moves_keep_order flow same path t apart once n m h old = moves_keep flow same path t.exact t.own apart once n m h old

pub parts_keep_order : {A B F P : Type 0} → PartsKeep A B F P
parts_keep_order flow same path next first t apart chain starts home source target at_of embeds n m h old =
    lifts_all flow same path next first home source target t.exact t.own apart chain starts at_of embeds n m h old

pub numbers_place : {A F P : Type 0} → NumbersPlace A F P
numbers_place flow same path t apart once seq n h counts = (
  placed flow same path t.exact t.own apart once n h (numbered_once flow same path t.exact t.own apart once seq n.injected counts),
  λ f. numbered flow same path t.exact t.own apart once seq n f h (counts f),
)
