-- One instruction on state and buffers.
pub mod Turn
