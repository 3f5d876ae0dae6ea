use Rattle.std.proofs.Common.{slice_set, slice_index, refl}
use Rattle.adu_frames.proofs.Spelling.{frame_written}
use Rattle.adu_frames.proofs.writing.write_frame.Goals as goal

pub returns : goal.returns
returns c =
    let out = c.args.out.now in
    let pair = c.to_be_bytes.result in
    frame_written out pair c.args.bytes.now c.put_padded.new.out c.args.flow c.to_be_bytes.ensures
    c.requires.least c.requires.fits
    (slice_set (slice_set (slice_set out 0 c.args.flow) 1 (slice_index pair 0)) 2 (slice_index pair
    1)) refl c.put_padded.ensures
