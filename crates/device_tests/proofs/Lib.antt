mod Opening
mod Images
