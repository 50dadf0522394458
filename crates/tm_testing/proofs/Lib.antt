mod Stable
