use mathlib.Core.Path.{◌≡◌, sym, ap, ◌∙◌}
use mathlib.Core.List.{List, []}
use Prim.Native.Nat.{ℕ}
use Rattle.std.specs.Prelude.{Result, Ok, Err, None}
use Rattle.standard_path.specs.Header.{header_number, header_check, segment_index}
use Rattle.standard_path.specs.declared.view.HeaderError.{HeaderError}
use Rattle.standard_path.proofs.HeaderAsked.{header_asked}
use Rattle.reply.specs.declared.Reply.{Reply}
use Rattle.reply.specs.Reply.{reply, index_reply, segment_reply}
use Rattle.reply.proofs.segment_reply.Goals as goal

abbrev after_header : Reply → Result Unit HeaderError → Reply
after_header index (Ok done) = index
after_header index (Err error) = reply (header_number error) [] None

asked : (path : List ℕ) (hop : ℕ) → segment_reply path hop ≡ after_header (index_reply hop (segment_index path hop)) (header_check path)
unfolding segment_reply
asked path hop = sym (header_asked (after_header (index_reply hop (segment_index path hop))) path)

pub returns-in-Ok : goal.returns-in-Ok
returns-in-Ok c =
    rw (asked c.args.path.now c.args.hop_idx, sym c.check_header.ensures ∙ c.in-Ok.is)
    (c.index_reply.ensures ∙ ap (index_reply _) c.calculate_segment_index.ensures)

pub returns-in-Err : goal.returns-in-Err
returns-in-Err c =
    rw (asked c.args.path.now c.args.hop_idx, sym c.check_header.ensures ∙ c.in-Err.is)
    (c.plain.ensures ∙ rw c.header_number.ensures)
